-- A plan with other points, and the observation points of a goal alone.
use Rattle.std.specs.Prelude.{List, [], ◌∷◌, None}
use Rattle.circuit.specs.declared.parts.NetId.{NetId}
use Rattle.alarm_points.specs.declared.Points.{Points}
use Rattle.campaign_plan.specs.Analysis.{Analysis}

abbrev pub with_points : Analysis → Points → Analysis
with_points p points = record p { points = points }

-- one goal that observes these nets, and no alarm
abbrev pub observing : List NetId → Points
observing nets = record { goals = record { name = []; ftti = None; observe = nets } ∷ []; alarm = [] }
