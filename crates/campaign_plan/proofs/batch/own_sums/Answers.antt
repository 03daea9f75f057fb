use Rattle.std.proofs.Common.{◌≡◌, ◌+◌, length, ap, sym, subst, ◌∙◌, arith}
use Rattle.metric_sums.specs.Totals.{AreSmall}
use Rattle.campaign_plan.proofs.Lanes.{none_below, all_below, sums_grow, unused_lane, small_below}
use Rattle.campaign_plan.proofs.batch.own_sums.Goals as goal
use Rattle.campaign_plan.proofs.batch.own_sums.Goals.{then-i-faults, else-i-faults}

pub loop-lane-init : goal.loop-lane-init
loop-lane-init c = c.none-sums.ensures ∙ none_below c.args.plan.now c.args.batch c.args.outcome

pub plus-sums-requires : goal.plus-sums-requires
plus-sums-requires c =
    let p = c.args.plan.now in
    let count = c.len-faults.ensures.count ∙ ap length c.faults.ensures.value in
    subst AreSmall (sym (sums_grow p c.args.batch c.args.outcome c.loop-lane.lane c.loop-lane.sums c.fault_sums.result c.has_bit-dangerous.result c.has_bit-noticed.result
    c.loop-lane.invariant c.has_bit-dangerous.ensures c.has_bit-noticed.ensures c.fault_sums.ensures (omega (arith, count, c.if-i-faults.true))))
    (small_below p c.args.batch c.args.outcome (c.loop-lane.lane + 1) c.faults.ensures.plan)

pub loop-lane-preserved : goal.loop-lane-preserved
loop-lane-preserved c =
    let p = c.args.plan.now in
    let count = c.len-faults.ensures.count ∙ ap length c.faults.ensures.value in
    elim c.if-i-faults.branch [
      | then-i-faults w ↦ w.sums-is ∙ w.plus-sums.ensures
          ∙ sums_grow p c.args.batch c.args.outcome c.loop-lane.lane c.loop-lane.sums w.fault_sums.result w.has_bit-dangerous.result w.has_bit-noticed.result
          c.loop-lane.invariant w.has_bit-dangerous.ensures w.has_bit-noticed.ensures w.fault_sums.ensures (omega (arith, count, w.if-i-faults.true))
      | else-i-faults w ↦ w.sums-is ∙ c.loop-lane.invariant
          ∙ sym (unused_lane p c.args.batch c.args.outcome c.loop-lane.lane (omega (arith, count, w.if-i-faults.false)))
    ]

pub returns : goal.returns
returns c =
    let end : c.loop-lane.lane ≡ 64 = omega (arith, c.loop-lane-test.false, c.loop-lane.auto.lane-end) in
    c.loop-lane.invariant ∙ all_below c.args.plan.now c.args.batch c.args.outcome c.loop-lane.lane end
