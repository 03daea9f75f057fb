use Rattle.std.proofs.Common.{◌+◌}
use Rattle.metric_breakdown.specs.Turns.{HasSums}
use Rattle.metric_breakdown.proofs.worker.add_turns.Given as goal

-- the turns so far are added
abbrev pub invariant-loop-word : goal.invariant-loop-word
invariant-loop-word l = HasSums l.plan l.readings l.share (l.turn + l.word) l.sums
