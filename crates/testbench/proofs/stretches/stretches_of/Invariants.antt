use Rattle.std.proofs.Common.{◌≡◌, length}
use Rattle.testbench.specs.Seen.{AreStretchesOf}
use Rattle.workload.specs.Runs.{run_at}
use Rattle.testbench.proofs.stretches.stretches_of.Given as goal

-- the stretches so far
abbrev pub invariant-loop-s : goal.invariant-loop-s
invariant-loop-s l = record {
  count : length l.stretches.items ≡ l.s;
  seen : AreStretchesOf l.net (run_at l.golden.runs l.run) l.s l.stretches.items;
}
