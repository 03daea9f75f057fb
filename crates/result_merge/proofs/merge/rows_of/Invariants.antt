use Rattle.result_merge.specs.Tables.{at_either}
use Rattle.result_merge.proofs.Rowing.{AreSoFar}
use Rattle.result_merge.proofs.merge.rows_of.Given as goal

abbrev pub invariant-loop-batch : goal.invariant-loop-batch
invariant-loop-batch l = AreSoFar l.plan (at_either l.firsts l.seconds) l.batch l.rows l.sums
