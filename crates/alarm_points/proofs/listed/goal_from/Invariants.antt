use Rattle.std.proofs.Common.{◌≡◌, map, filter, take}
use Rattle.circuit.specs.Circuit.{Circuit}
use Rattle.alarm_points.specs.PointsSteps.{observing_under, point_of, same_goal_under}
use Rattle.alarm_points.proofs.listed.goal_from.Given as goal

abbrev pub invariant-loop-row : goal.invariant-loop-row
invariant-loop-row l =
    (c : Circuit) → l.nets ≡ c.names → l.observe ≡ map (point_of c l.header) (filter (same_goal_under l.header l.first) (observing_under l.header (take l.row-index l.rows)))
