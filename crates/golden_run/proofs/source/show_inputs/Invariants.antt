use Rattle.std.proofs.Common.{◌≡◌, ◌<◌, ℕ, length}
use Rattle.circuit.specs.declared.parts.Driver.TheVariants.{Input, Latch as FromLatch}
use Rattle.circuit.specs.Value.{bit_at, driver_at}
use Rattle.place_set.specs.Places.{value_in}
use Rattle.golden_run.specs.Events.{AreValuesOf, ordered_of}
use Rattle.golden_run.proofs.source.show_inputs.Given as goal

-- the inputs so far show their bits, and no latch shows anything else
abbrev pub invariant-loop-i : goal.invariant-loop-i
invariant-loop-i l = record {
  values : AreValuesOf (ordered_of l.wiring) l.values;
  shown : (n k : ℕ) → n < length l.wiring.netlist.now.drivers → driver_at l.wiring.netlist.now n ≡ Input k → k < l.i → value_in l.values.row.items n ≡ bit_at l.inputs k;
  others : (n k : ℕ) → driver_at l.wiring.netlist.now n ≡ FromLatch k → value_in l.values.row.items n ≡ value_in l.initial.values.row.items n;
}
