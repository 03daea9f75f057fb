use Rattle.std.proofs.Common.{◌≡◌, map, take}
use Rattle.circuit.specs.Circuit.{Circuit}
use Rattle.fm_base.specs.Lists.{firsts}
use Rattle.alarm_points.specs.PointsSteps.{goal_from, goals_named, observing_under, same_goal_under}
use Rattle.alarm_points.proofs.listed.goals_of.Given as goal

abbrev pub invariant-loop-row : goal.invariant-loop-row
invariant-loop-row l = record {
  names : l.names ≡ goals_named l.header (take l.row-index l.rows);
  goals : (c : Circuit) → l.nets ≡ c.names
      → l.goals ≡ map (goal_from c l.header l.rows) (firsts (same_goal_under l.header) (observing_under l.header (take l.row-index l.rows)));
}
