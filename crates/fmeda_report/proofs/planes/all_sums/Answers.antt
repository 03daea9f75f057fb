use Rattle.std.proofs.Common.{◌≡◌, ◌+◌, ◌∙◌, ap, sym, subst, arith}
use Rattle.metric_sums.specs.Totals.{AreSmall, AreConsistent}
use Rattle.campaign_plan.specs.Analysis.{batch_count}
use Rattle.fmeda_report.specs.Tallies.{planes_in_order}
use Rattle.fmeda_report.proofs.Summing.{sums_below, sums_no_batch, sums_step, consistent_below}
use Rattle.fmeda_report.proofs.planes.all_sums.Goals as goal

pub loop-batch-init : goal.loop-batch-init
loop-batch-init c = c.none-sums.ensures ∙ sums_no_batch c.args.plan.now (planes_in_order c.args.planes.now)

pub plus-sums-requires : goal.plus-sums-requires
plus-sums-requires c =
    let p = c.args.plan.now in
    let planes = planes_in_order c.args.planes.now in
    let step = sums_step p planes c.loop-batch.batch c.loop-batch.sums c.own_sums.result c.loop-batch.invariant c.own_sums.ensures in
    subst AreSmall (sym step)
    (consistent_below p c.batches-batch-end.ensures.plan planes (c.loop-batch.batch + 1) (omega (arith, c.loop-batch-test.true, c.batches-batch-end.ensures.count))).small

pub loop-batch-preserved : goal.loop-batch-preserved
loop-batch-preserved c =
    c.plus-sums.ensures
    ∙ sums_step c.args.plan.now (planes_in_order c.args.planes.now) c.loop-batch.batch c.loop-batch.sums c.own_sums.result c.loop-batch.invariant c.own_sums.ensures

pub returns : goal.returns
returns c =
    let p = c.args.plan.now in
    let planes = planes_in_order c.args.planes.now in
    let count = c.batches-batch-end.ensures.count in
    let end : c.loop-batch.batch ≡ batch_count p = omega (arith, c.loop-batch-test.false, c.loop-batch.auto.batch-end, count) in
    let sums = c.loop-batch.invariant ∙ ap (sums_below p planes) end in
    record { sums = sums; consistent = subst AreConsistent (sym sums) (consistent_below p c.batches-batch-end.ensures.plan planes (batch_count p) (omega arith)) }
