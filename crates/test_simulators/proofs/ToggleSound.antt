-- The circuit is a netlist.
use Rattle.std.proofs.Common.{refl}
use Rattle.circuit.specs.Sound.{IsNetlist}
use Rattle.circuit.proofs.Passing.{netlist_passes}
use Rattle.test_simulators.specs.Toggle.{toggle}

pub toggle_sound : IsNetlist toggle
toggle_sound = netlist_passes toggle (record {
  few = refl;
  few_latches = refl;
  named = refl;
  names = refl;
  nets = refl;
  drivers = refl;
  inputs = refl;
  latches = refl;
  driven = refl;
  tables = refl;
  sources = refl;
  outputs = refl;
  outputs_apart = refl;
})
