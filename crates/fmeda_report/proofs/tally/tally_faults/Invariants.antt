use Rattle.std.proofs.Common.{◌≡◌, ◌<◌, ℕ, length}
use Rattle.fmeda_report.specs.Tallies.{planes_in_order, tally_at, tally_of}
use Rattle.fmeda_report.proofs.Tallying.{first_of_part}
use Rattle.fmeda_report.proofs.tally.tally_faults.Given as goal

abbrev pub invariant-loop-i : goal.invariant-loop-i
invariant-loop-i l =
    (k : ℕ) → k < length l.tallies → tally_at l.tallies k ≡ tally_of l.plan (planes_in_order l.planes) (first_of_part l.plan k l.i)
