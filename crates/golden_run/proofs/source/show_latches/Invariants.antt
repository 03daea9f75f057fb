use Rattle.std.proofs.Common.{◌≡◌, ◌<◌, ℕ, length}
use Rattle.circuit.specs.declared.parts.Driver.TheVariants.{Latch as FromLatch}
use Rattle.circuit.specs.Value.{bit_at, driver_at}
use Rattle.place_set.specs.Places.{value_in}
use Rattle.golden_run.specs.Events.{AreValuesOf, ordered_of}
use Rattle.golden_run.proofs.source.show_latches.Given as goal

-- the latches so far show what they hold
abbrev pub invariant-loop-l : goal.invariant-loop-l
invariant-loop-l l = record {
  values : AreValuesOf (ordered_of l.wiring) l.values;
  shown : (n k : ℕ) → n < length l.wiring.netlist.now.drivers → driver_at l.wiring.netlist.now n ≡ FromLatch k → k < l.l → value_in l.values.row.items n ≡ bit_at l.raw k;
}
