use Rattle.std.proofs.Common.{◌≡◌, ◌<◌, ◌||◌, ℕ, length, not}
use Rattle.fm_base.specs.Lists.{some_below}
use Rattle.place_set.specs.Places.{value_in}
use Rattle.workload.specs.Runs.{run_at}
use Rattle.golden_values.specs.Golden.{golden_of}
use Rattle.testbench.specs.Seen.{HasRoom}
use Rattle.golden_values.proofs.values.add_cycles.Given as goal

-- the values of the cycles so far are added
abbrev pub invariant-loop-t : goal.invariant-loop-t
invariant-loop-t l = record {
  room : HasRoom (length l.bench.circuit.drivers) l.seen;
  ones_are : (net : ℕ) → net < length l.bench.circuit.drivers
      → value_in l.seen.ones net ≡ (value_in l.initial.seen.ones net || some_below l.t (golden_of l.bench.circuit net (run_at l.bench.runs l.run)));
  zeros_are : (net : ℕ) → net < length l.bench.circuit.drivers
      → value_in l.seen.zeros net ≡ (value_in l.initial.seen.zeros net || some_below l.t (λ u. not (golden_of l.bench.circuit net (run_at l.bench.runs l.run) u)));
}
