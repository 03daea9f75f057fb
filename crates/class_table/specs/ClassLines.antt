-- The lines of `classes`, fault by fault.
use Rattle.std.specs.Prelude.{ℕ, ◌/◌, ◌%◌, List, [], ◌∷◌, length, false}
use Rattle.std.specs.List.{flat_map}
use Rattle.circuit.specs.declared.parts.Fault.{Fault}
use Rattle.circuit.specs.Circuit.{Circuit}
use Rattle.circuit.specs.Effects.{is_permanent}
use Rattle.fault_list.specs.Faults.{fault_at, fault_name}
use Rattle.metric_sums.specs.Classes.{class_of}
use Rattle.metric_sums.specs.declared.Role.TheVariants.{Mission}
use Rattle.campaign_plan.specs.declared.Outcome.{Outcome}
use Rattle.classifier.specs.Simulated.{Simulated, planes_simulated}
use Rattle.metric_sums.specs.Words.{class_word}
use Rattle.fm_base.specs.Lists.{below}
use Rattle.fm_base.specs.Names.{Bytes}
use Rattle.fm_base.specs.Planes.{bit}
use Rattle.fm_base.specs.Text.{line}

-- the line of fault i in a mission part that isn't covered, where its batch has these planes
abbrev pub class_line : Circuit → List Fault → Outcome → ℕ → Bytes
class_line c fs planes i =
    line (fault_name c (fault_at fs i) ∷ class_word (class_of (bit planes.danger (i % 64)) (bit planes.noticed (i % 64)) Mission false (is_permanent (fault_at fs i))) ∷ [])

-- the lines of all faults, in list order
abbrev pub class_lines : Simulated → Bytes
class_lines s = flat_map (λ i. class_line s.circuit s.faults (planes_simulated s (i / 64)) i) (below (length s.faults))
