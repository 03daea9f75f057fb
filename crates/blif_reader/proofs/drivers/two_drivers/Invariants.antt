use Rattle.std.proofs.Common.{◌≡◌, drop, map, take}
use Rattle.std.specs.Prelude.{flat_map}
use Rattle.fm_base.specs.Firsts.{first_after}
use Rattle.fm_base.specs.Names.{is_one_of}
use Rattle.blif_model.specs.WalkFault.{two_drivers}
use Rattle.blif_flatten.specs.Flattened.{flat_steps}
use Rattle.blif_reader.specs.Passes.{settled}
use Rattle.blif_reader.proofs.Driving.{driver_answer, drives_at}
use Rattle.blif_reader.proofs.drivers.two_drivers.Given as goal

abbrev pub invariant-loop-place : goal.invariant-loop-place
invariant-loop-place l = let steps = flat_steps l.flat in record {
  marks : l.driven.items ≡ map (is_one_of (settled steps (flat_map (drives_at steps) (take l.place steps)))) l.flat.names;
  left : first_after (driver_answer steps) (flat_map (drives_at steps) (take l.place steps)) (flat_map (drives_at steps) (drop l.place steps)) ≡ two_drivers steps;
}
