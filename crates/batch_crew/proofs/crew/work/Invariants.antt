use Rattle.std.proofs.Common.{ℕ}
use Rattle.batch_crew.proofs.crew.work.Given as goal

abbrev pub invariant-loop-round : goal.invariant-loop-round
invariant-loop-round g l = g.A.Rounds.has_done l.analysis l.share l.round l.worker
