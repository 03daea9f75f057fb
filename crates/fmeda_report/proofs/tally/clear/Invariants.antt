use Rattle.std.proofs.Common.{◌≡◌, ◌<◌, ℕ}
use Rattle.fmeda_report.specs.Tallies.{empty_tally, tally_at}
use Rattle.fmeda_report.proofs.tally.clear.Given as goal

abbrev pub invariant-loop-tally : goal.invariant-loop-tally
invariant-loop-tally l = (k : ℕ) → k < l.tally-index → tally_at l.tallies k ≡ empty_tally
