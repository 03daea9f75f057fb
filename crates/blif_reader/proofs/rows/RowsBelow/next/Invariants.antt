use Rattle.std.proofs.Common.{◌≡◌, drop}
use Rattle.blif_model.specs.Models.{rows_below}
use Rattle.blif_reader.proofs.rows.RowsBelow.next.Given as goal

abbrev pub invariant-loop-place : goal.invariant-loop-place
invariant-loop-place l = rows_below (drop l.place l.lines) ≡ rows_below l.lines
