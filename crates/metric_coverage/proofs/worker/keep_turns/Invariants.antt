use Rattle.std.proofs.Common.{◌+◌, length}
use Rattle.metric_coverage.specs.Turns.{HasTurns}
use Rattle.metric_coverage.proofs.worker.keep_turns.Given as goal

-- the turns so far are kept
abbrev pub invariant-loop-word : goal.invariant-loop-word
invariant-loop-word l = HasTurns l.plan l.readings l.share (length l.initial.turns) (l.turn + l.word) l.turns
