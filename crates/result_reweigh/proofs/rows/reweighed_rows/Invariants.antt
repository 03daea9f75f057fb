use Rattle.result_reweigh.proofs.First.{AreFirst}
use Rattle.result_reweigh.proofs.rows.reweighed_rows.Given as goal

abbrev pub invariant-loop-row : goal.invariant-loop-row
invariant-loop-row l = AreFirst l.plan l.rows l.row-index l.made l.sums
