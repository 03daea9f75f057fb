use Rattle.std.proofs.Common.{◌≡◌}
use Rattle.std.specs.Prelude.{◌&&◌, not}
use Rattle.fm_base.specs.Planes.{plane_below}
use Rattle.fault_list.specs.Faults.{fault_number, is_used}
use Rattle.campaign_plan.specs.Analysis.{fault_count}
use Rattle.metric_bounds.specs.Steps.{is_on_mechanism}
use Rattle.metric_bounds.proofs.missing.other_lanes.Given as goal

abbrev pub invariant-loop-lane : goal.invariant-loop-lane
invariant-loop-lane l =
    l.plane ≡ plane_below l.lane (λ lane. is_used (fault_count l.plan) l.batch lane && not (is_on_mechanism l.plan (fault_number l.batch lane)))
