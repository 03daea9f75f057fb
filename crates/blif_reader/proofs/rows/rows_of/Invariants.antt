use Rattle.std.proofs.Common.{◌≡◌, ◌++◌, length, map}
use Rattle.blif_model.specs.Models.{rows_below}
use Rattle.blif_model.specs.Net.{lits_of}
use Rattle.blif_reader.proofs.rows.rows_of.Given as goal

abbrev pub invariant-rows : goal.invariant-rows
invariant-rows l = l.rows ++ map lits_of (rows_below l.left.lines.now) ≡ map lits_of (rows_below l.below)

abbrev pub decreases-rows : goal.decreases-rows
decreases-rows l = length l.left.lines.now
