use Rattle.std.proofs.Common.{◌≡◌, map, filter, take}
use Rattle.circuit.specs.Circuit.{Circuit}
use Rattle.alarm_points.specs.PointsSteps.{is_alarm, point_of}
use Rattle.alarm_points.proofs.listed.alarms_of.Given as goal

abbrev pub invariant-loop-row : goal.invariant-loop-row
invariant-loop-row l = (c : Circuit) → l.nets ≡ c.names → l.alarm ≡ map (point_of c l.header) (filter (is_alarm l.header) (take l.row-index l.rows))
