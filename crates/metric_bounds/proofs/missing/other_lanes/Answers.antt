use Rattle.std.proofs.Common.{◌<◌, ◌∙◌, sym, arith}
use Rattle.metric_bounds.proofs.Ending.{lane_left, lane_set, no_lane, other_lane}
use Rattle.metric_bounds.proofs.missing.other_lanes.Goals as goal
use Rattle.metric_bounds.proofs.missing.other_lanes.Goals.{then-is_other_lane, else-is_other_lane}

pub loop-lane-init : goal.loop-lane-init
loop-lane-init c = no_lane (other_lane c.args.plan.now c.args.batch)

pub loop-lane-preserved : goal.loop-lane-preserved
loop-lane-preserved c =
    let test = other_lane c.args.plan.now c.args.batch in
    let lane = c.loop-lane.lane in
    let lt : lane < 64 = omega (arith, c.loop-lane-test.true) in
    elim c.if-is_other_lane.branch [
      | then-is_other_lane w ↦ w.plane-is ∙ lane_set test lane c.loop-lane.plane lt c.loop-lane.invariant (sym c.is_other_lane.ensures ∙ w.if-is_other_lane.true)
      | else-is_other_lane w ↦ w.plane-is ∙ lane_left test lane c.loop-lane.plane c.loop-lane.invariant (sym c.is_other_lane.ensures ∙ w.if-is_other_lane.false)
    ]
