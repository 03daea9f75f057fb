-- What `breakdown` prints: the metrics of a plan by each reading of it. ISO 26262-5:2018, clause 8, wants them for each safety goal; that they
-- are also told without each alarm point, by it alone and for other fault tolerant time intervals is this project's own.
use Rattle.std.specs.Prelude.{ℕ, not, ◌==◌, List, [], ◌∷◌, ◌++◌, map, flat_map, filter, codes, decimal}
use Rattle.circuit.specs.declared.parts.NetId.{NetId}
use Rattle.circuit.specs.Names.{net_name}
use Rattle.alarm_points.specs.declared.Goal.{Goal}
use Rattle.fm_base.specs.Names.{Bytes}
use Rattle.fm_base.specs.Text.{line}
use Rattle.campaign_plan.specs.Analysis.{Analysis, with_interval}
use Rattle.campaign_plan.specs.Batches.{true_planes}
use Rattle.fmeda_report.specs.Report.{all_sums, metric_lines}
use Rattle.result_file.specs.RowPlanes.{Planes}

-- a reading: its words, and the plan with the points or the interval so changed
pub record Reading : Type 0 where
  pub words : List Bytes
  pub plan : Analysis

-- the name of a goal; a dash for that of a points file without names
abbrev pub goal_word : Goal → Bytes
goal_word goal = elim goal.name [ [] ↦ codes "-" | _ ↦ goal.name ]

-- a plan with other goals, and with other alarm points
abbrev pub with_goals : Analysis → List Goal → Analysis
with_goals p goals = record p { points = record p.points { goals = goals } }

abbrev pub with_alarms : Analysis → List NetId → Analysis
with_alarms p alarm = record p { points = record p.points { alarm = alarm } }

-- all alarm points but this one
abbrev pub other_alarms : Analysis → NetId → List NetId
other_alarms p net = filter (λ other. not (other.0 == net.0)) p.points.alarm

-- THE READINGS in order: the plan itself; each goal's points alone; each alarm point left out; each alone; each of these intervals
unfoldable pub readings : Analysis → List ℕ → List Reading
readings p intervals =
    let reading : Bytes → Bytes → Analysis → Reading = λ kind name plan. record { words = kind ∷ name ∷ []; plan = plan } in
    let name : NetId → Bytes = λ net. net_name p.circuit net.0 in
    record { words = codes "all" ∷ []; plan = p }
    ∷ map (λ goal. reading (codes "goal") (goal_word goal) (with_goals p (goal ∷ []))) p.points.goals
    ++ map (λ net. reading (codes "without") (name net) (with_alarms p (other_alarms p net))) p.points.alarm
    ++ map (λ net. reading (codes "only") (name net) (with_alarms p (net ∷ []))) p.points.alarm
    ++ map (λ ftti. reading (codes "ftti") (decimal ftti) (with_interval p ftti)) intervals

-- the text, where `planes` gives the planes of each reading's plan
unfoldable pub breakdown_with : (Analysis → Planes) → Analysis → List ℕ → Bytes
breakdown_with planes p intervals =
    flat_map (λ reading. line (codes "reading" ∷ reading.words) ++ metric_lines p.settings.asil (all_sums reading.plan (planes reading.plan))) (readings p intervals)
    ++ line (codes "end" ∷ [])

-- THE TEXT OF `breakdown`: for each reading its line, and the ten lines that `report` prints of the metrics and targets of its plan
abbrev pub breakdown : Analysis → List ℕ → Bytes
breakdown p intervals = breakdown_with true_planes p intervals
