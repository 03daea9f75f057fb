use Rattle.std.proofs.Common.{arith}
use Rattle.result_reweigh.proofs.First.{none_yet, row_within, sums_small, one_more, all_made}
use Rattle.result_reweigh.proofs.rows.reweighed_rows.Goals as goal

pub loop-row-init : goal.loop-row-init
loop-row-init c = none_yet c.args.plan.now c.args.rows.now _ _ c.new-made.ensures c.none-sums.ensures

pub own_sums-requires : goal.own_sums-requires
own_sums-requires c = row_within c.args.plan.now c.args.rows.now c.loop-row.row-index _ c.loop-row-test.true c.requires

pub plus-sums-requires : goal.plus-sums-requires
plus-sums-requires c =
    sums_small c.args.plan.now c.args.rows.now c.loop-row.row-index _ c.loop-row-test.true c.loop-row.made c.loop-row.sums c.own_sums.result
    c.loop-row.invariant c.own_sums.ensures c.kept.ensures c.requires

pub loop-row-preserved : goal.loop-row-preserved
loop-row-preserved c =
    one_more c.args.plan.now c.args.rows.now c.loop-row.row-index _ c.loop-row-test.true c.loop-row.made c.loop-row.sums c.own_sums.result
    c.loop-row.invariant c.own_sums.ensures c.push.new.self c.plus-sums.result c.plus-sums.ensures c.in_ok-push.ensures.ok

pub returns : goal.returns
returns c =
    all_made c.args.plan.now c.args.rows.now c.loop-row.row-index c.loop-row.made c.loop-row.sums c.loop-row.invariant (omega (arith, c.loop-row-test.false))
