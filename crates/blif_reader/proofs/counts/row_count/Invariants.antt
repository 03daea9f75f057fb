use Rattle.std.proofs.Common.{◌≡◌, ◌+◌, ◌≤◌, length}
use Rattle.blif_model.specs.Models.{rows_below}
use Rattle.blif_reader.proofs.counts.row_count.Given as goal

abbrev pub invariant-rows : goal.invariant-rows
invariant-rows l = record {
  few : l.count + length l.left.lines.now ≤ length l.below;
  left : l.count + length (rows_below l.left.lines.now) ≡ length (rows_below l.below);
}

abbrev pub decreases-rows : goal.decreases-rows
decreases-rows l = length l.left.lines.now
