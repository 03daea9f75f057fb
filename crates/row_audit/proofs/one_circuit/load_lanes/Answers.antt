use Rattle.std.proofs.Common.{◌≢◌, ◌<◌, length, ◌∙◌, arith, below_more, get_or-set_other, get_or-set_same, length-set}
use Rattle.std.specs.Prelude.{Option, None}
use Rattle.circuit.specs.declared.parts.Fault.{Fault}
use Rattle.row_audit.proofs.one_circuit.load_lanes.Goals as goal

pub loop-lane-preserved : goal.loop-lane-preserved
loop-lane-preserved c =
    let lane = c.loop-lane.lane in
    let lanes = c.loop-lane.lanes in
    let inv = c.loop-lane.invariant in
    let own : Option Fault = c.in_lane.result in
    let within : lane < length lanes = omega (arith, inv.count, c.loop-lane-test.true) in
    record {
      count = length-set lanes lane own ∙ inv.count;
      held = below_more _ _
          (λ k before. let other : k ≢ lane = omega (arith, before) in get_or-set_other lanes lane k own None other ∙ inv.held k before)
          (get_or-set_same lanes lane own None within ∙ c.in_lane.ensures);
    }
