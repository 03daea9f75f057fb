-- A longer window supposes more.
use Rattle.std.proofs.Common.{ℕ, ◌≤◌, arith}
use Rattle.coverage_claim.specs.Claim.{Claim, window_of}
use Rattle.coverage_claim.specs.Laws.{LongerWindowsProve, with_window}
use Rattle.coverage_claim.specs.Stretch.{AreSo, Values}

-- two runs that are so over more frames are so over fewer
shorter : (claim : Claim) (long : ℕ) → claim.window ≤ long → (gold faulty : Values) → AreSo (window_of (with_window claim long)) gold faulty
    → AreSo (window_of claim) gold faulty
shorter claim long le gold faulty so = record {
  tables = λ frame k net within. so.tables frame k net (omega (arith, within, le));
  latches = λ frame l latch within. so.latches frame l latch (omega (arith, within, le));
  inputs = λ frame k net within. so.inputs frame k net (omega (arith, within, le));
  held = λ frame within. so.held frame (omega (arith, within, le));
  silent = λ frame within i d lt. (let both = so.silent frame (omega (arith, within, le)) i d lt in (both.0, λ until. both.1 (omega (arith, until, le))));
  start = so.start;
}

pub longer_window : LongerWindowsProve
longer_window claim long le proof = record {
  goes_on = λ gold faulty so. (let goes = proof.goes_on gold faulty (shorter claim long le gold faulty so) in record { same = goes.same; again = goes.again });
  begins = proof.begins;
}
