use Rattle.std.proofs.Common.{◌≡◌, ◌<◌, ℕ, length}
use Rattle.metric_coverage.specs.Cycles.{cycle_at, cycle_below}
use Rattle.metric_coverage.specs.Freed.{evidence_at}
use Rattle.metric_coverage.proofs.cycles.weigh_flips.Given as goal

-- the faults so far are added
abbrev pub invariant-loop-i : goal.invariant-loop-i
invariant-loop-i l = (k : ℕ) → k < length l.cycles → cycle_at l.cycles k ≡ cycle_below l.plan (evidence_at l.evidence) k l.i
