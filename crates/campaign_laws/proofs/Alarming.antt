-- Danger goes away with a longer interval and with more alarm points, and notice comes with the latter.
use Rattle.std.proofs.Common.{◌≡◌, ℕ, suc, ◌≤◌, Bool, true, false, not, ◌⊎◌, inl, inr, List, [], ◌∷◌, refl, ap, ◌∙◌, arith}
use Rattle.std.specs.Prelude.{◌&&◌, ◌||◌, Contains, Option, Some, None, unwrap_or}
use Rattle.std.specs.List.{list_any}
use Rattle.std.proofs.lemmas.List.Folds.{list_any_at}
use Rattle.circuit.specs.declared.parts.Fault.{Fault}
use Rattle.circuit.specs.declared.parts.NetId.{NetId}
use Rattle.circuit.specs.Circuit.{Circuit}
use Rattle.fm_base.specs.Lists.{some_below}
use Rattle.fm_base.proofs.Below.{some_below-true, some_below-at, some_below-false}
use Rattle.fm_base.proofs.Tests.{and_both, both_true, clash, false_of, or_cases, or_second}
use Rattle.workload.specs.declared.run.Run.{Run}
use Rattle.workload.specs.Runs.{cycles_of, is_mission, is_test}
use Rattle.alarm_points.specs.declared.Goal.{Goal}
use Rattle.alarm_points.specs.declared.Points.{Points}
use Rattle.alarm_points.specs.Interval.{goes_unalarmed, interval_of}
use Rattle.alarm_points.proofs.Unalarmed.{goes_unalarmed-of, goes_unalarmed-says}
use Rattle.campaign_plan.specs.Danger.{differs, golden, is_dangerous, is_dangerous_for, is_dangerous_in, is_noticed, is_noticed_in, is_raised, is_silenced, with_faults}
use Rattle.campaign_laws.specs.Danger.{AreMore, AreMoreWatchful, LongerTakesDanger, MoreAlarmsAreLessDangerous, with_alarms}

-- ---- tests over lists

first_or : {X : Type 0} (test : X → Bool) (x : X) (xs : List X) → test x ≡ true → list_any test (x ∷ xs) ≡ true
first_or test x xs e = ap (λ b. b || list_any test xs) e

-- a test that passes wherever another does
any_more : {X : Type 0} (f g : X → Bool) (xs : List X) → ((x : X) → f x ≡ true → g x ≡ true) → list_any f xs ≡ true → list_any g xs ≡ true
any_more f g [] more e = e
any_more f g (x ∷ xs) more e = elim (or_cases (f x) (list_any f xs) e) as (λ _. list_any g (x ∷ xs) ≡ true) [
  | inl here ↦ first_or g x xs (more x here)
  | inr later ↦ or_second (g x) (list_any g xs) (any_more f g xs more later)
]

-- where some element passes
any_says : {X : Type 0} (f : X → Bool) (xs : List X) → list_any f xs ≡ true → (x : X) × Contains xs x × (f x ≡ true)
any_says f [] e = absurd (cc)
any_says {X} f (x ∷ xs) e = elim (or_cases (f x) (list_any f xs) e) as (λ _. (y : X) × Contains (x ∷ xs) y × (f y ≡ true)) [
  | inl here ↦ (x, (0, omega arith, refl), here)
  | inr later ↦ (let rest = any_says f xs later in (rest.0, (suc rest.1.0, omega (arith, rest.1.1), rest.1.2), rest.2))
]

any_of : {X : Type 0} (f : X → Bool) (xs : List X) (x : X) → Contains xs x → f x ≡ true → list_any f xs ≡ true
any_of f xs x has e = list_any_at f xs has.0 x has.1 (ap f has.2 ∙ e)

-- a list that has each element of another
any_wider : {X : Type 0} (f : X → Bool) (xs ys : List X) → ((x : X) → Contains xs x → Contains ys x) → list_any f xs ≡ true → list_any f ys ≡ true
any_wider f xs ys wider e = let some = any_says f xs e in any_of f ys some.0 (wider some.0 some.1) some.2

below_more : (n : ℕ) (f g : ℕ → Bool) → ((k : ℕ) → f k ≡ true → g k ≡ true) → some_below n f ≡ true → some_below n g ≡ true
below_more n f g more e = let some = some_below-true n f e in some_below-at n g some.0 some.1 (more some.0 some.2)

-- ---- one run

-- with a shorter interval, and with fewer alarms
unalarmed_more : (short long cycles : ℕ) (differs few more : ℕ → Bool) → short ≤ long → ((u : ℕ) → few u ≡ true → more u ≡ true)
    → goes_unalarmed long cycles differs more ≡ true → goes_unalarmed short cycles differs few ≡ true
unalarmed_more short long cycles differs few more le wider e =
    let is = goes_unalarmed-says long cycles differs more e in
    goes_unalarmed-of short cycles differs few (record {
      t = is.t;
      within = is.within;
      differs_at = is.differs_at;
      quiet = λ u lt early. (
          let none : more u ≡ false = is.quiet u lt (omega (arith, early, le)) in
          false_of (few u) (λ raised. clash (more u) (wider u raised) none));
    })

-- where no alarm is raised at all
unalarmed_quiet : (ftti cycles : ℕ) (differs few more : ℕ → Bool) → some_below cycles more ≡ false
    → goes_unalarmed ftti cycles differs few ≡ true → goes_unalarmed ftti cycles differs more ≡ true
unalarmed_quiet ftti cycles differs few more none e =
    let is = goes_unalarmed-says ftti cycles differs few e in
    goes_unalarmed-of ftti cycles differs more (record {
      t = is.t;
      within = is.within;
      differs_at = is.differs_at;
      quiet = λ u lt early. some_below-false cycles more none u lt;
    })

interval_less : (own : Option ℕ) (short long : ℕ) → short ≤ long → unwrap_or own short ≤ unwrap_or own long
interval_less None short long le = le
interval_less (Some f) short long le = omega arith

-- ---- a longer interval

dangerous_longer : (c : Circuit) (points : Points) (short long : ℕ) (x : List Fault) (run : Run) (goal : Goal) → short ≤ long
    → is_dangerous_for c points long x run goal ≡ true → is_dangerous_for c points short x run goal ≡ true
dangerous_longer c points short long x run goal le e =
    let parts = and_both (is_mission run.kind) (goes_unalarmed (interval_of long goal) (cycles_of run) (differs c goal x run) (is_raised c points x run)) e in
    both_true (is_mission run.kind) (goes_unalarmed (interval_of short goal) (cycles_of run) (differs c goal x run) (is_raised c points x run)) parts.0
    (unalarmed_more (interval_of short goal) (interval_of long goal) (cycles_of run) (differs c goal x run) (is_raised c points x run) (is_raised c points x run)
    (interval_less goal.ftti short long le) (λ u raised. raised) parts.1)

pub longer : LongerTakesDanger
unfolding is_dangerous goes_unalarmed
longer c points runs x short long le e =
    any_more (is_dangerous_in c points long x) (is_dangerous_in c points short x) runs
    (λ run. any_more (is_dangerous_for c points long x run) (is_dangerous_for c points short x run) points.goals
    (λ goal. dangerous_longer c points short long x run goal le)) e

-- ---- more alarm points

module _ (c : Circuit) (points : Points) (alarms : List NetId) (more : AreMore points alarms) (ftti : ℕ) (runs : List Run) (x : List Fault) where
  abbrev wider : Points
  wider = with_alarms points alarms

  raised_more : (run : Run) (u : ℕ) → is_raised c points x run u ≡ true → is_raised c wider x run u ≡ true
  raised_more run u = any_wider (λ net. with_faults c x run u net && not (with_faults c [] run u net)) points.alarm alarms more

  silenced_more : (run : Run) (u : ℕ) → is_silenced c points x run u ≡ true → is_silenced c wider x run u ≡ true
  silenced_more run u = any_wider (λ net. not (with_faults c x run u net) && golden c run u net) points.alarm alarms more

  dangerous_fewer : (run : Run) (goal : Goal) → is_dangerous_for c wider ftti x run goal ≡ true → is_dangerous_for c points ftti x run goal ≡ true
  dangerous_fewer run goal e =
      let parts = and_both (is_mission run.kind) (goes_unalarmed (interval_of ftti goal) (cycles_of run) (differs c goal x run) (is_raised c wider x run)) e in
      both_true (is_mission run.kind) (goes_unalarmed (interval_of ftti goal) (cycles_of run) (differs c goal x run) (is_raised c points x run)) parts.0
      (unalarmed_more (interval_of ftti goal) (interval_of ftti goal) (cycles_of run) (differs c goal x run) (is_raised c points x run) (is_raised c wider x run)
      (omega arith) (raised_more run) parts.1)

  danger : is_dangerous c wider ftti runs x ≡ true → is_dangerous c points ftti runs x ≡ true
  unfolding is_dangerous goes_unalarmed
  danger =
      any_more (is_dangerous_in c wider ftti x) (is_dangerous_in c points ftti x) runs
      (λ run. any_more (is_dangerous_for c wider ftti x run) (is_dangerous_for c points ftti x run) points.goals (dangerous_fewer run))

  noticed_more : (run : Run) → is_noticed_in c points x run ≡ true → is_noticed_in c wider x run ≡ true
  noticed_more run e =
      let raised = some_below (cycles_of run) (is_raised c points x run) in
      let raised_wider = some_below (cycles_of run) (is_raised c wider x run) in
      let in_test = is_test run.kind && some_below (cycles_of run) (is_silenced c points x run) in
      let in_test_wider = is_test run.kind && some_below (cycles_of run) (is_silenced c wider x run) in
      elim (or_cases raised in_test e) as (λ _. (raised_wider || in_test_wider) ≡ true) [
        | inl here ↦ ap (λ b. b || in_test_wider) (below_more (cycles_of run) (is_raised c points x run) (is_raised c wider x run) (raised_more run) here)
        | inr there ↦ or_second raised_wider in_test_wider
            (let parts = and_both (is_test run.kind) (some_below (cycles_of run) (is_silenced c points x run)) there in
            both_true (is_test run.kind) (some_below (cycles_of run) (is_silenced c wider x run)) parts.0
            (below_more (cycles_of run) (is_silenced c points x run) (is_silenced c wider x run) (silenced_more run) parts.1))
      ]

  notice : is_noticed c points runs x ≡ true → is_noticed c wider runs x ≡ true
  unfolding is_noticed
  notice = any_more (is_noticed_in c points x) (is_noticed_in c wider x) runs noticed_more

  -- where some run has no alarm at all, and the fault is dangerous in it
  quiet_run : (run : Run) → is_dangerous_in c points ftti x run ≡ true → (is_dangerous_in c wider ftti x run ≡ true) ⊎ (is_noticed_in c wider x run ≡ true)
  quiet_run run e = by_alarm (some_below (cycles_of run) (is_raised c wider x run)) refl
    where
      by_alarm : (loud : Bool) → some_below (cycles_of run) (is_raised c wider x run) ≡ loud
          → (is_dangerous_in c wider ftti x run ≡ true) ⊎ (is_noticed_in c wider x run ≡ true)
      by_alarm true raised = inr (ap (λ b. b || (is_test run.kind && some_below (cycles_of run) (is_silenced c wider x run))) raised)
      by_alarm false none = inl (any_more (is_dangerous_for c points ftti x run) (is_dangerous_for c wider ftti x run) points.goals (λ goal h.
          let parts = and_both (is_mission run.kind) (goes_unalarmed (interval_of ftti goal) (cycles_of run) (differs c goal x run) (is_raised c points x run)) h in
          both_true (is_mission run.kind) (goes_unalarmed (interval_of ftti goal) (cycles_of run) (differs c goal x run) (is_raised c wider x run)) parts.0
          (unalarmed_quiet (interval_of ftti goal) (cycles_of run) (differs c goal x run) (is_raised c points x run) (is_raised c wider x run) none parts.1)) e)

  some_run : (list : List Run) → list_any (is_dangerous_in c points ftti x) list ≡ true → list_any (is_dangerous_in c wider ftti x) list ≡ false
      → list_any (is_noticed_in c wider x) list ≡ true
  some_run list e none =
      let some = any_says (is_dangerous_in c points ftti x) list e in
      elim (quiet_run some.0 some.2) as (λ _. list_any (is_noticed_in c wider x) list ≡ true) [
        | inl still ↦ absurd (clash (list_any (is_dangerous_in c wider ftti x) list) (any_of (is_dangerous_in c wider ftti x) list some.0 some.1 still) none)
        | inr seen ↦ any_of (is_noticed_in c wider x) list some.0 some.1 seen
      ]

  instead : is_dangerous c points ftti runs x ≡ true → is_dangerous c wider ftti runs x ≡ false → is_noticed c wider runs x ≡ true
  unfolding is_dangerous is_noticed goes_unalarmed
  instead = some_run runs

  watchful : AreMoreWatchful c points alarms ftti runs x
  watchful = record { danger = danger; notice = notice; instead = instead }

pub more_alarms : MoreAlarmsAreLessDangerous
more_alarms c points alarms more ftti runs x = watchful c points alarms more ftti runs x
