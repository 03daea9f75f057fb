use Rattle.row_audit.proofs.Rows.{every_item}
use Rattle.row_audit.proofs.law.each_first_is_each.Goals as goal

pub returns : goal.returns
returns c = λ rows. every_item 0 rows
