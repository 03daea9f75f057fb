use Rattle.std.proofs.Common.{◌+◌, sym, subst}
use Rattle.metric_sums.specs.Totals.{AreSmall}
use Rattle.campaign_plan.proofs.Small.{small_sums}
use Rattle.metric_bounds.proofs.Rowing.{distinct_first, first_entries, one_more, row_within}
use Rattle.metric_bounds.proofs.sums.kept_sums.Goals as goal

pub own_sums-requires : goal.own_sums-requires
own_sums-requires c = row_within c.args.plan.now c.args.rows.now c.loop-row.row-index _ c.requires.distinct c.loop-row-test.true

pub plus-sums-requires : goal.plus-sums-requires
plus-sums-requires c =
    let p = c.args.plan.now in
    let rows = c.args.rows.now in
    let i = c.loop-row.row-index in
    let step = one_more p rows i _ c.loop-row.sums c.own_sums.result c.loop-row-test.true c.loop-row.invariant c.own_sums.ensures in
    subst AreSmall (sym step) (small_sums p c.requires.plan (first_entries rows (i + 1)) (distinct_first p rows (i + 1) c.requires.distinct))
