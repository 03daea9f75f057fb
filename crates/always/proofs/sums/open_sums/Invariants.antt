use Rattle.std.proofs.Common.{◌≡◌}
use Rattle.fm_base.specs.Lists.{below}
use Rattle.metric_sums.specs.Totals.{sums_by}
use Rattle.campaign_plan.specs.Laws.{fault_share}
use Rattle.always.specs.Steps.{open_class}
use Rattle.always.specs.Verdict.{verdict_at}
use Rattle.always.proofs.sums.open_sums.Given as goal

-- the sums over the faults so far
abbrev pub invariant-loop-i : goal.invariant-loop-i
invariant-loop-i l = l.sums ≡ sums_by (fault_share l.plan (open_class l.plan l.counting (verdict_at l.plan l.from l.answers))) (below l.i)
