-- What the record of a fault says is what its run shows.
use Rattle.std.proofs.Common.{◌≡◌, ℕ, true, false, ◌&&◌, ◌||◌, List, [], map, Option, Some, None, is_some, option_and_then, ap, ap₂, sym, ◌∙◌}
use Rattle.std.specs.Prelude.{if◌then◌else◌}
use Rattle.std.specs.List.{list_any}
use Rattle.std.proofs.Math.Bool.{or-false}
use Rattle.circuit.specs.declared.parts.Fault.{Fault}
use Rattle.circuit.specs.Circuit.{Circuit}
use Rattle.workload.specs.declared.run.Kind.TheVariants.{Mission, Test}
use Rattle.workload.specs.declared.run.Run.{Run}
use Rattle.workload.specs.Runs.{is_mission, is_test}
use Rattle.alarm_points.specs.declared.Points.{Points}
use Rattle.alarm_points.specs.Interval.{interval_of}
use Rattle.first_cycles.specs.FirstCycles.{comes_late, earliest}
use Rattle.first_cycles.specs.Shown.{Shown, longest, needed, shown_in}
use Rattle.fault_runs.specs.First.{FirstCycles, first_of}
use Rattle.fault_runs.specs.declared.record.AlarmCycles.{AlarmCycles}
use Rattle.fault_runs.specs.Records.{AreRecordsFor, FaultRecords, alarm_cycles, goal_cycles, record_of}
use Rattle.fault_runs.specs.Whole.{HasShownRun}
use Rattle.latency_table.specs.declared.latency.RunShows.{RunShows}
use Rattle.latency_table.specs.Latency.{IsShownBy, alarm_in, point_at}
use Rattle.latency_table.proofs.Lists.{any_either, none_any, same_any, same_maps, some_earliest}
use Rattle.testbench.specs.Points.{alarm_at, goal_at}

module _ (c : Circuit) (points : Points) (ftti : ℕ) (run : Run) (x : List Fault) (k : ℕ) (r : FaultRecords) (fit : AreRecordsFor points r) (seen : HasShownRun points (shown_in c x run) (record_of r k)) where
  abbrev s : Shown
  s = shown_in c x run

  differences : map (λ goal. first_of goal k) r.goals ≡ map s.difference points.goals
  differences = same_maps (λ (goal : FirstCycles). first_of goal k) s.difference r.goals points.goals (goal_cycles [] 0) (goal_at [] 0) fit.goals seen.difference

  alarms : map (λ alarm. first_of alarm.raised k) r.alarms ≡ map s.alarm points.alarm
  alarms = same_maps (λ (alarm : AlarmCycles). first_of alarm.raised k) s.alarm r.alarms points.alarm (alarm_cycles [] 0) (alarm_at [] 0) fit.alarms seen.alarm

  silenced : is_test run.kind ≡ true → list_any (λ alarm. is_some (first_of alarm.silenced k)) r.alarms ≡ list_any s.is_silenced points.alarm
  silenced test =
      same_any (λ (alarm : AlarmCycles). is_some (first_of alarm.silenced k)) s.is_silenced r.alarms points.alarm (alarm_cycles [] 0) (alarm_at [] 0) fit.alarms (seen.silenced test)

  pub first_alarm_is : earliest (map (λ alarm. first_of alarm.raised k) r.alarms) ≡ alarm_in points s
  first_alarm_is = ap earliest alarms

  module _ (alarm : Option ℕ) (alarm_is : alarm ≡ alarm_in points s) where
    intervals : longest (map (λ goal. needed (first_of goal k) alarm) r.goals) ≡ longest (map (λ goal. needed (s.difference goal) (alarm_in points s)) points.goals)
    intervals =
        ap longest (same_maps (λ (goal : FirstCycles). needed (first_of goal k) alarm) (λ goal. needed (s.difference goal) (alarm_in points s)) r.goals points.goals (goal_cycles [] 0) (goal_at [] 0)
        fit.goals (λ g lt. ap₂ needed (seen.difference g lt) alarm_is))

    -- a run of the mission
    pub mission_shown : (shows : RunShows) → run.kind ≡ Mission → shows.alarm ≡ alarm → shows.point ≡ option_and_then (point_at points s.alarm) alarm
        → shows.noticed ≡ is_some alarm → shows.reached ≡ earliest (map (λ goal. first_of goal k) r.goals)
        → shows.interval ≡ longest (map (λ goal. needed (first_of goal k) alarm) r.goals)
        → shows.late ≡ list_any (λ goal. comes_late (interval_of ftti goal) (s.difference goal) alarm) points.goals
        → IsShownBy points ftti s shows
    mission_shown shows kind a p n d v l =
        let mission : is_mission run.kind ≡ true = ap is_mission kind in
        let test : is_test run.kind ≡ false = ap is_test kind in
        record {
          late =
              l ∙ (λ i. list_any (λ goal. comes_late (interval_of ftti goal) (s.difference goal) (alarm_is i)) points.goals)
              ∙ (λ i. list_any (λ goal. sym mission i && comes_late (interval_of ftti goal) (s.difference goal) (alarm_in points s)) points.goals);
          noticed =
              n ∙ ap is_some alarm_is ∙ some_earliest s.alarm points.alarm
              ∙ (λ i. list_any (λ net. sym (or-false (is_some (s.alarm net))) i) points.alarm)
              ∙ (λ i. list_any (λ net. is_some (s.alarm net) || (sym test i && s.is_silenced net)) points.alarm);
          reached = d ∙ ap earliest differences ∙ ap (λ b. if b then earliest (map s.difference points.goals) else None) (sym mission);
          alarm = a ∙ alarm_is;
          point = p ∙ ap (option_and_then (point_at points s.alarm)) alarm_is;
          interval = v ∙ intervals ∙ ap (λ b. if b then longest (map (λ goal. needed (s.difference goal) (alarm_in points s)) points.goals) else Some 0) (sym mission);
        }

    -- a test
    pub test_shown : (shows : RunShows) → run.kind ≡ Test → shows.alarm ≡ alarm → shows.point ≡ option_and_then (point_at points s.alarm) alarm
        → shows.noticed ≡ (is_some alarm || list_any (λ a. is_some (first_of a.silenced k)) r.alarms) → shows.reached ≡ None → shows.interval ≡ Some 0 → shows.late ≡ false
        → IsShownBy points ftti s shows
    test_shown shows kind a p n d v l =
        let mission : is_mission run.kind ≡ false = ap is_mission kind in
        let test : is_test run.kind ≡ true = ap is_test kind in
        record {
          late =
              l ∙ sym (none_any points.goals)
              ∙ (λ i. list_any (λ goal. sym mission i && comes_late (interval_of ftti goal) (s.difference goal) (alarm_in points s)) points.goals);
          noticed =
              n ∙ ap₂ (λ a b. a || b) (ap is_some alarm_is ∙ some_earliest s.alarm points.alarm) (silenced test)
              ∙ sym (any_either (λ net. is_some (s.alarm net)) s.is_silenced points.alarm)
              ∙ (λ i. list_any (λ net. is_some (s.alarm net) || (sym test i && s.is_silenced net)) points.alarm);
          reached = d ∙ ap (λ b. if b then earliest (map s.difference points.goals) else None) (sym mission);
          alarm = a ∙ alarm_is;
          point = p ∙ ap (option_and_then (point_at points s.alarm)) alarm_is;
          interval = v ∙ ap (λ b. if b then longest (map (λ goal. needed (s.difference goal) (alarm_in points s)) points.goals) else Some 0) (sym mission);
        }
