use Rattle.std.proofs.Common.{length}
use Rattle.metric_breakdown.specs.Turns.{HaveSums, turns_for}
use Rattle.metric_breakdown.proofs.fan_out.gather.Given as goal

-- the sums of the workers so far
abbrev pub invariant-loop-worker : goal.invariant-loop-worker
invariant-loop-worker l = HaveSums l.rounds.plan.now l.rounds.readings.now (length l.workers) (turns_for l.rounds.plan.now (length l.workers)) l.worker-index l.sums
