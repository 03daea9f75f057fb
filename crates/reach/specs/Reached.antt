-- What the cones of the points were made for; whatever they hold is determined by it.
use Rattle.std.specs.Prelude.{List}
use Rattle.circuit.specs.declared.parts.NetId.{NetId}
use Rattle.circuit.specs.Circuit.{Circuit}
use Rattle.alarm_points.specs.declared.Points.{Points}
use Rattle.alarm_points.specs.PointsFile.{observed}
use Rattle.reach.specs.declared.points.Sort.{Sort}
use Rattle.reach.specs.declared.points.Sort.TheVariants.{Alarm, Observation}

-- a netlist, and points of it
pub record Reached : Type 0 where
  pub circuit : Circuit
  pub points : Points

-- the nets of a sort of points
abbrev pub nets_of : Points → Sort → List NetId
nets_of points Alarm = points.alarm
nets_of points Observation = observed points
