use Rattle.std.proofs.Common.{◌≡◌, ◌<◌, ℕ}
use Rattle.fm_base.specs.Once.{IsOnce}
use Rattle.result_file.specs.RowPlanes.{planes_in}
use Rattle.fmeda_report.specs.Tallies.{planes_in_order}
use Rattle.result_file.proofs.RowPlanes.{row_batches, row_at}
use Rattle.fmeda_report.proofs.planes.place_planes.Given as goal

abbrev pub invariant-loop-row : goal.invariant-loop-row
invariant-loop-row l =
    IsOnce (row_batches l.rows)
    → (k : ℕ) → k < l.row-index → planes_in_order l.planes (row_at l.rows k).batch ≡ planes_in l.rows (row_at l.rows k).batch
