-- What is kept of a simulated fault: first cycles, run by run. Danger and notice by them, for any points, any interval and so for each reading.
use Rattle.std.specs.Prelude.{ℕ, ◌-◌, ◌&&◌, ◌||◌, not, Bool, List, [], ◌∷◌, map, max, nat_le, if◌then◌else◌, Option, Some, None, is_some}
use Rattle.std.specs.List.{list_any}
use Rattle.circuit.specs.declared.parts.Fault.{Fault}
use Rattle.circuit.specs.declared.parts.NetId.{NetId}
use Rattle.circuit.specs.Circuit.{Circuit}
use Rattle.fm_base.specs.Lists.{some_below}
use Rattle.fm_base.specs.Planes.{plane_of}
use Rattle.fault_list.specs.Faults.{fault_at, fault_number, is_used}
use Rattle.workload.specs.declared.run.Kind.{Kind}
use Rattle.workload.specs.declared.run.Run.{Run}
use Rattle.workload.specs.Runs.{cycles_of, is_mission, is_test}
use Rattle.alarm_points.specs.declared.Goal.{Goal}
use Rattle.alarm_points.specs.declared.Points.{Points}
use Rattle.alarm_points.specs.Interval.{interval_of}
use Rattle.campaign_plan.specs.Analysis.{Analysis, all_faults, fault_count}
use Rattle.campaign_plan.specs.Danger.{with_faults}
use Rattle.campaign_plan.specs.declared.Outcome.{Outcome}
use Rattle.first_cycles.specs.FirstCycles.{comes_late, earliest, first_alarm, first_difference}

-- what a run shows of a list of faults: of each goal the first difference, and of each alarm point the first alarm and whether it is silenced
pub record Shown : Type 0 where
  pub kind : Kind
  pub difference : Goal → Option ℕ
  pub alarm : NetId → Option ℕ
  pub is_silenced : NetId → Bool

-- an alarm point is silenced: its net is 0 with the faults and 1 in the golden run
abbrev pub is_silenced_at : Circuit → List Fault → Run → NetId → ℕ → Bool
is_silenced_at c x run net t = not (with_faults c x run t net) && with_faults c [] run t net

-- what a run shows of these faults
abbrev pub shown_in : Circuit → List Fault → Run → Shown
shown_in c x run = record {
  kind = run.kind;
  difference = first_difference c x run;
  alarm = first_alarm c x run;
  is_silenced = λ net. some_below (cycles_of run) (is_silenced_at c x run net);
}

-- what all runs of a plan show of a fault alone
abbrev pub shown_of : Analysis → Fault → List Shown
shown_of p f = map (shown_in p.circuit (f ∷ [])) p.runs

-- DANGER for these points and this interval, by what the runs show
abbrev pub danger_by : Points → ℕ → List Shown → Bool
danger_by points ftti =
    list_any (λ s. list_any (λ goal. is_mission s.kind && comes_late (interval_of ftti goal) (s.difference goal) (earliest (map s.alarm points.alarm))) points.goals)

-- NOTICE for these points: a point of theirs is raised, or silenced in a test
abbrev pub notice_by : Points → List Shown → Bool
notice_by points = list_any (λ s. list_any (λ net. is_some (s.alarm net) || (is_test s.kind && s.is_silenced net)) points.alarm)

-- the planes of a plan, by what its runs show of each fault
abbrev pub planes_by : (Fault → List Shown) → Analysis → ℕ → Outcome
planes_by shown p batch =
    let plane = λ (test : List Shown → Bool). plane_of (λ k. is_used (fault_count p) batch k && test (shown (fault_at (all_faults p) (fault_number batch k)))) in
    record { danger = plane (danger_by p.points p.settings.ftti); noticed = plane (notice_by p.points) }

-- ---- which interval would do

-- the least interval with which a first difference and a first alarm aren't late, if there is one
abbrev pub needed : (difference alarm : Option ℕ) → Option ℕ
needed None alarm = Some 0
needed (Some t) None = None
needed (Some t) (Some u) = Some (u - t)

-- the greater of two intervals, where none is greater than any
abbrev pub longer : Option ℕ → Option ℕ → Option ℕ
longer None other = None
longer (Some m) None = None
longer (Some m) (Some n) = Some (max m n)

-- the greatest of all
abbrev pub longest : List (Option ℕ) → Option ℕ
longest intervals = elim intervals [ [] ↦ Some 0 | m ∷ (others → most) ↦ longer m most ]

-- an interval that is at most so long
abbrev pub if_at_most : ℕ → Option ℕ → Option ℕ
if_at_most most None = None
if_at_most most (Some n) = if nat_le n most then Some n else None

-- the least interval that would do for all goals, by what a run shows: a test needs none
abbrev pub interval_in : Points → Shown → Option ℕ
interval_in points s =
    if is_mission s.kind then longest (map (λ goal. needed (s.difference goal) (earliest (map s.alarm points.alarm))) points.goals) else Some 0

-- the same by what all runs show
abbrev pub interval_by : Points → List Shown → Option ℕ
interval_by points shown = longest (map (interval_in points) shown)
