-- Shapes of private steps: what is kept of a fault while its runs are simulated one after the other. Nothing public cites them.
use Rattle.std.specs.Prelude.{◌≡◌, ℕ, false, ◌&&◌, ◌||◌, List, [], ◌∷◌, length, map, find, take, Option, Some, None, is_some, option_map, option_and_then, slice_index_or, if◌then◌else◌}
use Rattle.std.specs.List.{list_any}
use Rattle.circuit.specs.declared.parts.Fault.{Fault}
use Rattle.circuit.specs.declared.parts.NetId.{NetId}
use Rattle.circuit.specs.Circuit.{Circuit}
use Rattle.fm_base.specs.Firsts.{first_where}
use Rattle.fm_base.specs.Lists.{below}
use Rattle.workload.specs.declared.run.Run.{Run}
use Rattle.workload.specs.Runs.{is_mission, is_test, run_at}
use Rattle.alarm_points.specs.declared.Points.{Points}
use Rattle.alarm_points.specs.Interval.{interval_of}
use Rattle.campaign_plan.specs.Analysis.{Analysis, fault_numbered}
use Rattle.first_cycles.specs.FirstCycles.{comes_late, earliest, first_alarm}
use Rattle.first_cycles.specs.Shown.{Shown, danger_by, interval_by, interval_in, longer, notice_by, shown_in}
use Rattle.readings.specs.Latencies.{Sighting}
use Rattle.readings.specs.Laws.{is_at}
use Rattle.latency_table.specs.declared.latency.Sighting.{Sighting as Kept}
use Rattle.latency_table.specs.declared.latency.Latency.{Latency}
use Rattle.latency_table.specs.declared.latency.RunShows.{RunShows}

-- ---- what one run shows

-- when an observation point first differs, in a run of the mission; and when an alarm is first raised
abbrev pub reach_in : Points → Shown → Option ℕ
reach_in points s = if is_mission s.kind then earliest (map s.difference points.goals) else None

abbrev pub alarm_in : Points → Shown → Option ℕ
alarm_in points s = earliest (map s.alarm points.alarm)

-- the first alarm point that is first raised in this cycle
abbrev pub point_at : Points → (NetId → Option ℕ) → ℕ → Option NetId
point_at points first cycle = find (λ net. is_at (first net) cycle) points.alarm

-- all that is asked of a run, by what it shows
pub record IsShownBy (points : Points) (ftti : ℕ) (s : Shown) (shows : RunShows) : Type 0 where
  pub late : shows.late ≡ list_any (λ goal. is_mission s.kind && comes_late (interval_of ftti goal) (s.difference goal) (alarm_in points s)) points.goals
  pub noticed : shows.noticed ≡ list_any (λ net. is_some (s.alarm net) || (is_test s.kind && s.is_silenced net)) points.alarm
  pub reached : shows.reached ≡ reach_in points s
  pub alarm : shows.alarm ≡ alarm_in points s
  pub point : shows.point ≡ option_and_then (point_at points s.alarm) (alarm_in points s)
  pub interval : shows.interval ≡ interval_in points s

-- ---- what the first n runs show

-- the first sighting in the first n runs
abbrev pub sighted : Circuit → List Run → List Fault → (Shown → Option ℕ) → ℕ → Option Sighting
sighted c runs x seen n = first_where (λ k. option_map (λ t. record { run = k; cycle = t }) (seen (shown_in c x (run_at runs k)))) (below n)

-- a sighting, as the table's definition has it
abbrev pub sighting_of : Option Kept → Option Sighting
sighting_of kept = option_map (λ (s : Kept). record { run = s.run; cycle = s.cycle }) kept

-- what the first n runs show of these faults
abbrev pub shown_first : Circuit → List Run → List Fault → ℕ → List Shown
shown_first c runs x n = map (shown_in c x) (take n runs)

-- all that is kept of these faults after the first n runs
pub record IsLatencyOf (c : Circuit) (points : Points) (ftti : ℕ) (runs : List Run) (x : List Fault) (n : ℕ) (l : Latency) : Type 0 where
  pub dangerous : l.dangerous ≡ danger_by points ftti (shown_first c runs x n)
  pub noticed : l.noticed ≡ notice_by points (shown_first c runs x n)
  pub reached : sighting_of l.reached ≡ sighted c runs x (reach_in points) n
  pub alarmed : sighting_of l.alarmed ≡ sighted c runs x (alarm_in points) n
  pub point : l.point ≡ option_and_then (λ s. point_at points (first_alarm c x (run_at runs s.run)) s.cycle) (sighted c runs x (alarm_in points) n)
  pub interval : l.interval ≡ interval_by points (shown_first c runs x n)

-- of a fault of a plan, after all runs
abbrev pub IsLatencyFor : Analysis → ℕ → Latency → Type 0
IsLatencyFor p i l = IsLatencyOf p.circuit p.points p.settings.ftti p.runs (fault_numbered p i ∷ []) (length p.runs) l

-- ---- one run more

-- the sighting of an earlier run, or that of this one
abbrev pub first_of : Option Kept → ℕ → Option ℕ → Option Kept
first_of (Some s) run cycle = Some s
first_of None run (Some t) = Some (record { run = run; cycle = t })
first_of None run None = None

-- what is kept where this is shown too
abbrev pub latency_after : Latency → ℕ → RunShows → Latency
latency_after l run shows = record {
  dangerous = l.dangerous || shows.late;
  noticed = l.noticed || shows.noticed;
  reached = first_of l.reached run shows.reached;
  alarmed = first_of l.alarmed run shows.alarm;
  point = if is_some l.alarmed then l.point else shows.point;
  interval = longer l.interval shows.interval;
}

-- ---- of many faults

-- by its number, of those that are kept
abbrev pub latency_at : List Latency → ℕ → Latency
latency_at latencies j =
    slice_index_or latencies j (record { dangerous = false; noticed = false; reached = None; alarmed = None; point = None; interval = Some 0 })
