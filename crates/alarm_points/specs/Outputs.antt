-- What is answered where all outputs are to be points.
use Rattle.std.specs.Prelude.{◌≡◌, ◌<◌, ◌≤◌, length, Result, Ok, Err}
use Rattle.circuit.specs.Circuit.{Circuit}
use Rattle.alarm_points.specs.declared.Points.{Points}
use Rattle.alarm_points.specs.declared.outputs.OutputsRefusal.{OutputsRefusal}
use Rattle.alarm_points.specs.declared.outputs.OutputsRefusal.TheVariants.{TooMany, Memory}
use Rattle.alarm_points.specs.PointsFile.{all_outputs}

-- the points, where there are at most 1,024 outputs, and a refusal where there are more; want of memory is free
abbrev pub AnswersOutputs : Circuit → Result Points OutputsRefusal → Type 0
AnswersOutputs c (Ok points) = (length c.outputs ≤ 1024) × (points ≡ all_outputs c)
AnswersOutputs c (Err TooMany) = 1024 < length c.outputs
AnswersOutputs c (Err (Memory no_room)) = Unit {0}
