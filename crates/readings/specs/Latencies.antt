-- The table of `latencies`: for each fault whether it is excited, when it first reaches an observation point, when the first alarm comes, and
-- which interval would do. The form is that of RFC 4180; the columns are this project's own. Runs are counted from 1 and cycles from 0.
use Rattle.std.specs.Prelude.{ℕ, ◌+◌, Bool, not, ◌&&◌, List, [], ◌∷◌, ◌++◌, length, map, flat_map, find, Option, None, option_map, option_and_then, unwrap_or, if◌then◌else◌, codes, decimal}
use Rattle.std.specs.List.{list_any, join_with_byte}
use Rattle.std.specs.Str.{byte}
use Rattle.circuit.specs.declared.parts.Fault.{Fault}
use Rattle.circuit.specs.declared.parts.NetId.{NetId}
use Rattle.circuit.specs.Names.{net_name}
use Rattle.fm_base.specs.Firsts.{first_where}
use Rattle.fm_base.specs.Lists.{below, same_bit, some_below}
use Rattle.fm_base.specs.Names.{Bytes}
use Rattle.fm_base.specs.Text.{whole_line}
use Rattle.fault_list.specs.Faults.{fault_name, net_of_fault}
use Rattle.workload.specs.declared.run.Run.{Run}
use Rattle.workload.specs.Runs.{cycles_of, is_mission, run_at}
use Rattle.alarm_points.specs.declared.Goal.{Goal}
use Rattle.alarm_points.specs.declared.Points.{Points}
use Rattle.alarm_points.specs.PointsFile.{observed}
use Rattle.campaign_plan.specs.Analysis.{Analysis, fault_count, fault_numbered, part_numbered, part_of}
use Rattle.campaign_plan.specs.Batches.{class_of_fault, true_planes}
use Rattle.campaign_plan.specs.Danger.{is_dangerous, is_raised, with_faults}
use Rattle.campaign_plan.specs.Weights.{weight}
use Rattle.metric_sums.specs.Words.{class_word}
use Rattle.campaign_tables.specs.Csv.{csv_field}
use Rattle.first_cycles.specs.FirstCycles.{first_below, is_raised_at}

-- the number of a run, from 0, and a cycle of it
pub record Sighting : Type 0 where
  pub run : ℕ
  pub cycle : ℕ

-- the first run in which some cycle passes the test, and the first such cycle
abbrev pub first_seen : List Run → (Run → ℕ → Bool) → Option Sighting
first_seen runs test =
    first_where (λ k. option_map (λ t. record { run = k; cycle = t }) (first_below (cycles_of (run_at runs k)) (test (run_at runs k)))) (below (length runs))

-- with the fault alone a net differs from the golden run
abbrev pub is_changed : Analysis → Fault → Run → ℕ → NetId → Bool
is_changed p f run t net = not (same_bit (with_faults p.circuit (f ∷ []) run t net) (with_faults p.circuit [] run t net))

-- EXCITED: in some cycle of some run the net that the fault is on differs
abbrev pub is_excited : Analysis → Fault → Bool
is_excited p f = list_any (λ run. some_below (cycles_of run) (λ t. is_changed p f run t (record { 0 = net_of_fault p.circuit f }))) p.runs

-- REACHED: an observation point differs in a run of the mission
abbrev pub reached : Analysis → Fault → Option Sighting
reached p f = first_seen p.runs (λ run t. is_mission run.kind && list_any (is_changed p f run t) (observed p.points))

-- ALARM: an alarm is raised in a run, of the mission or of a test
abbrev pub alarmed : Analysis → Fault → Option Sighting
alarmed p f = first_seen p.runs (is_raised p.circuit p.points (f ∷ []))

-- the first of the alarm points that are raised then
abbrev pub alarm_point : Analysis → Fault → Option NetId
alarm_point p f = option_and_then (λ s. find (λ net. is_raised_at p.circuit (f ∷ []) (run_at p.runs s.run) net s.cycle) p.points.alarm) (alarmed p f)

-- points whose goals have no interval of their own
abbrev pub without_intervals : Points → Points
without_intervals points = record points { goals = map (λ (goal : Goal). record goal { ftti = None }) points.goals }

-- INTERVAL: the least of 0 to 4,096 cycles with which, as the interval of all goals, the fault isn't dangerous
unfoldable pub least_interval : Analysis → Fault → Option ℕ
least_interval p f = find (λ ftti. not (is_dangerous p.circuit (without_intervals p.points) ftti p.runs (f ∷ []))) (below 4097)

-- the CSV row of fault i, where `interval` tells which interval would do; a dash stands for what there isn't
unfoldable pub latency_row : (Fault → Option ℕ) → Analysis → ℕ → Bytes
latency_row interval p i =
    let f = fault_numbered p i in
    let dash : Option Bytes → Bytes = λ text. unwrap_or text (codes "-") in
    let run : Option Sighting → Bytes = λ seen. dash (option_map (λ s. decimal (s.run + 1)) seen) in
    let cycle : Option Sighting → Bytes = λ seen. dash (option_map (λ s. decimal s.cycle) seen) in
    join_with_byte (byte ",") (map csv_field (
    fault_name p.circuit f ∷ (part_numbered p (part_of p f)).name ∷ class_word (class_of_fault p (true_planes p) i) ∷ decimal (weight p i)
    ∷ (if is_excited p f then codes "1" else codes "0") ∷ run (reached p f) ∷ cycle (reached p f) ∷ run (alarmed p f) ∷ cycle (alarmed p f)
    ∷ dash (option_map (λ net. net_name p.circuit net.0) (alarm_point p f)) ∷ dash (option_map decimal (interval f)) ∷ [])) ++ 10 ∷ []

-- the names of the columns, and a row for each fault, in list order
unfoldable pub latencies_with : (Fault → Option ℕ) → Analysis → Bytes
latencies_with interval p =
    whole_line (codes "fault,part,class,weight,excited,reached_run,reached_cycle,alarm_run,alarm_cycle,alarm,interval")
    ++ flat_map (latency_row interval p) (below (fault_count p))

-- THE TABLE OF `latencies`
abbrev pub latencies : Analysis → Bytes
latencies p = latencies_with (least_interval p) p
