-- Danger is by first cycles.
use Rattle.std.proofs.Common.{◌≡◌, ℕ, Bool, ◌&&◌, List, map, ap, sym, ◌∙◌}
use Rattle.std.specs.List.{list_any}
use Rattle.circuit.specs.declared.parts.Fault.{Fault}
use Rattle.circuit.specs.declared.parts.NetId.{NetId}
use Rattle.circuit.specs.Circuit.{Circuit}
use Rattle.workload.specs.declared.run.Run.{Run}
use Rattle.workload.specs.Runs.{cycles_of, is_mission}
use Rattle.alarm_points.specs.declared.Points.{Points}
use Rattle.alarm_points.specs.Interval.{goes_unalarmed, interval_of}
use Rattle.campaign_plan.specs.Danger.{differs, is_dangerous, is_dangerous_in, is_raised}
use Rattle.fm_base.proofs.Finding.{list_any-map}
use Rattle.first_cycles.specs.FirstCycles.{DangerIsByFirstCycles, comes_late, earliest, first_alarm, first_below, first_difference, is_raised_at}
use Rattle.first_cycles.specs.Laws.{DangerIsShown}
use Rattle.first_cycles.specs.Shown.{Shown, shown_in}
use Rattle.first_cycles.proofs.Deciding.{decide}
use Rattle.first_cycles.proofs.Several.{several}

-- the first cycle with an alarm is the earliest of the points' first ones
pub alarms_first : (c : Circuit) (points : Points) (x : List Fault) (run : Run)
    → first_below (cycles_of run) (is_raised c points x run) ≡ earliest (map (first_alarm c x run) points.alarm)
alarms_first c points x run = several NetId (cycles_of run) (is_raised_at c x run) points.alarm

-- DANGER IN A RUN for a goal
pub by_first_cycles : DangerIsByFirstCycles
by_first_cycles c points ftti x run goal =
    ap (λ b. is_mission run.kind && b)
    (decide (interval_of ftti goal) (cycles_of run) (differs c goal x run) (is_raised c points x run)
    ∙ ap (comes_late (interval_of ftti goal) (first_difference c x run goal)) (alarms_first c points x run))

-- what a run shows of danger
abbrev pub run_danger : Points → ℕ → Shown → Bool
run_danger points ftti s =
    list_any (λ goal. is_mission s.kind && comes_late (interval_of ftti goal) (s.difference goal) (earliest (map s.alarm points.alarm))) points.goals

each_run : (c : Circuit) (points : Points) (ftti : ℕ) (x : List Fault) → is_dangerous_in c points ftti x ≡ (λ run. run_danger points ftti (shown_in c x run))
each_run c points ftti x = λ i run. list_any (λ goal. by_first_cycles c points ftti x run goal i) points.goals

-- DANGER in some run
pub danger_shown : DangerIsShown
unfolding is_dangerous goes_unalarmed
danger_shown c points ftti runs x =
    ap (λ (test : Run → Bool). list_any test runs) (each_run c points ftti x) ∙ sym (list_any-map (run_danger points ftti) (shown_in c x) runs)
