-- Danger and notice of a list of faults, over whole runs. Source: observation points and diagnostics as in
-- ISO 26262-11:2018, and the fault tolerant time interval of ISO 26262-1:2018, by this project's profile.
use Rattle.std.specs.Prelude.{ℕ, ◌+◌, Bool, true, false, not, ◌&&◌, ◌||◌, List, [], nat_le, unwrap_or}
use Rattle.std.specs.List.{list_any}
use Rattle.circuit.specs.declared.parts.Fault.{Fault}
use Rattle.circuit.specs.declared.parts.NetId.{NetId}
use Rattle.circuit.specs.Circuit.{Circuit}
use Rattle.circuit.specs.Trace.{trace}
use Rattle.workload.specs.declared.run.Run.{Run}
use Rattle.workload.specs.declared.run.Kind.TheVariants.{Mission, Test}
use Rattle.workload.specs.Runs.{is_mission, is_test, cycles_of}
use Rattle.alarm_points.specs.declared.Goal.{Goal}
use Rattle.alarm_points.specs.declared.Points.{Points}
use Rattle.alarm_points.specs.Interval.{goes_unalarmed, interval_of}
use Rattle.fm_base.specs.Lists.{some_below, same_bit}

-- the value of a net at a cycle of a run with these faults; with none it is that of the golden run
abbrev pub with_faults : Circuit → List Fault → Run → ℕ → NetId → Bool
with_faults c x run t net = trace c x run.vectors t net.0

-- an alarm is raised at cycle t: some alarm net is 1 with the faults and 0 in the golden run
abbrev pub is_raised : Circuit → Points → List Fault → Run → ℕ → Bool
is_raised c points x run t = list_any (λ net. with_faults c x run t net && not (with_faults c [] run t net)) points.alarm

-- dangerous: in some run of kind `mission`, for some goal, an observation net differs from the golden run at a cycle t, and no alarm is
-- raised from cycle 0 to t + the interval, the goal's own or else that of the settings; a run that ends before has no later alarm
unfoldable pub is_dangerous : Circuit → Points → ℕ → List Run → List Fault → Bool
is_dangerous c points ftti runs x =
    let is_other : Run → ℕ → NetId → Bool = λ run t net. not (same_bit (with_faults c x run t net) (with_faults c [] run t net)) in
    let alarmed : Run → ℕ → Bool = λ run end. some_below (cycles_of run) (λ u. nat_le u end && is_raised c points x run u) in
    let violates : Run → Goal → Bool = λ run goal.
    some_below (cycles_of run) (λ t. list_any (is_other run t) goal.observe && not (alarmed run (t + unwrap_or goal.ftti ftti))) in
    list_any (λ run. list_any (λ goal. elim run.kind [ Mission ↦ true | Test ↦ false ] && violates run goal) points.goals) runs

-- noticed: some run raises an alarm at some cycle, or one of kind `test` silences one: it is 0 with the faults and 1 in the golden run
unfoldable pub is_noticed : Circuit → Points → List Run → List Fault → Bool
is_noticed c points runs x =
    let silenced : Run → ℕ → Bool = λ run t. list_any (λ net. not (with_faults c x run t net) && with_faults c [] run t net) points.alarm in
    let in_test : Run → Bool = λ run. elim run.kind [ Mission ↦ false | Test ↦ true ] && some_below (cycles_of run) (silenced run) in
    list_any (λ run. some_below (cycles_of run) (is_raised c points x run) || in_test run) runs

-- ---- shapes of private steps

-- the golden value: that of the run without faults
abbrev pub golden : Circuit → Run → ℕ → NetId → Bool
golden c run t net = with_faults c [] run t net

-- some alarm net is 0 with the faults and 1 in the golden run
abbrev pub is_silenced : Circuit → Points → List Fault → Run → ℕ → Bool
is_silenced c points x run t = list_any (λ net. not (with_faults c x run t net) && golden c run t net) points.alarm

-- some observation net of a goal differs from the golden run at cycle t
abbrev pub differs : Circuit → Goal → List Fault → Run → ℕ → Bool
differs c goal x run t = list_any (λ net. not (same_bit (with_faults c x run t net) (golden c run t net))) goal.observe

-- dangerous in a run and for a goal
abbrev pub is_dangerous_for : Circuit → Points → ℕ → List Fault → Run → Goal → Bool
is_dangerous_for c points ftti x run goal =
    is_mission run.kind && goes_unalarmed (interval_of ftti goal) (cycles_of run) (differs c goal x run) (is_raised c points x run)

-- dangerous in a run
abbrev pub is_dangerous_in : Circuit → Points → ℕ → List Fault → Run → Bool
is_dangerous_in c points ftti x run = list_any (is_dangerous_for c points ftti x run) points.goals

-- noticed in a run
abbrev pub is_noticed_in : Circuit → Points → List Fault → Run → Bool
is_noticed_in c points x run =
    some_below (cycles_of run) (is_raised c points x run)
    || (is_test run.kind && some_below (cycles_of run) (is_silenced c points x run))
