use Rattle.std.proofs.Common.{length}
use Rattle.testbench.specs.Seen.{HasRoom, HasSeen}
use Rattle.workload.specs.Runs.{run_at}
use Rattle.testbench.proofs.stretches.see_cycles.Given as goal

-- the cycles so far have been looked at
abbrev pub invariant-loop-t : goal.invariant-loop-t
invariant-loop-t l = record {
  room : HasRoom (length l.net.drivers) l.seen;
  seen : HasSeen l.net (run_at l.golden.runs l.run) l.from l.t l.seen;
}
