use Rattle.std.proofs.Common.{◌<◌, [], cond, get_or, below_more, ap, ◌∙◌, arith}
use Rattle.circuit.specs.Effects.{affected}
use Rattle.lane_words.specs.Loads.{loaded_faults, names}
use Rattle.lane_words.proofs.arm.arm_all.Goals as goal

pub loop-lane-preserved : goal.loop-lane-preserved
loop-lane-preserved g c =
    let lane = c.loop-lane.lane in
    let loads = c.args.loads.now in
    let size = c.arm_lane.auto.forces in
    let inside : lane < g.W.Word.lanes = omega (arith, c.count-lane-end.ensures) in (
      below_more _ _
          (λ k lt n d own within.
          c.arm_lane.ensures.others k n d own (omega (arith, lt, inside)) (omega (arith, lt)) (omega (arith, size, within))
          ∙ c.loop-lane.invariant.0 k lt n d own (omega (arith, size, within)))
          (λ n d own within.
          c.arm_lane.ensures.own n d own (omega (arith, size, within))
          ∙ ap (cond (names (get_or loads lane []) n) (affected (loaded_faults loads lane) c.args.cycle n own))
          (c.loop-lane.invariant.1 lane n d own (omega arith) inside (omega (arith, size, within)))),
      λ k n d own le lt within.
          c.arm_lane.ensures.others k n d own lt (omega (arith, le)) (omega (arith, size, within))
          ∙ c.loop-lane.invariant.1 k n d own (omega (arith, le)) lt (omega (arith, size, within)),
    )
