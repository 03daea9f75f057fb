-- When a fault is reached and when its first alarm comes, by what the runs show.
use Rattle.std.proofs.Common.{◌≡◌, ℕ, Bool, true, false, cond, ◌&&◌, ◌||◌, List, [], ◌∷◌, length, map, find, flat_map, get_or, All, Option, Some, None, option_map, option_and_then, refl, ap, subst, sym, ◌∙◌}
use Rattle.std.specs.Prelude.{if◌then◌else◌}
use Rattle.std.specs.List.{list_any}
use Rattle.std.specs.Option.{option_or}
use Rattle.std.proofs.lemmas.Bool.{eq-eqb, eqb-true}
use Rattle.std.proofs.lemmas.List.Elements.{All-head, All-tail}
use Rattle.std.proofs.lemmas.List.Folds.{list_any-append, list_any_at}
use Rattle.circuit.specs.declared.parts.Fault.{Fault}
use Rattle.fm_base.specs.Firsts.{first_where}
use Rattle.fm_base.specs.Lists.{below}
use Rattle.fm_base.proofs.Tests.{clash, false_of}
use Rattle.workload.specs.declared.run.Run.{Run}
use Rattle.workload.specs.Runs.{cycles_of, is_mission, run_at}
use Rattle.alarm_points.specs.declared.Goal.{Goal}
use Rattle.alarm_points.proofs.Settled.{same_test}
use Rattle.campaign_plan.specs.Analysis.{Analysis}
use Rattle.campaign_plan.specs.Danger.{differs, is_raised}
use Rattle.first_cycles.specs.FirstCycles.{earliest, first_alarm, first_below, first_difference, is_raised_at}
use Rattle.readings.specs.Latencies.{Sighting, alarmed, is_changed, reached}
use Rattle.readings.specs.Laws.{AllSightingsAreShown, first_shown, is_at}
use Rattle.first_cycles.proofs.Dangers.{alarms_first}
use Rattle.first_cycles.proofs.Firsts.{IsFirst, IsFirstOf, first_found, first_is}
use Rattle.first_cycles.proofs.Several.{several}

any_flat : {X Y : Type 0} (p : Y → Bool) (f : X → List Y) (xs : List X) → list_any p (flat_map f xs) ≡ list_any (λ x. list_any p (f x)) xs
any_flat p f [] = refl
any_flat p f (x ∷ xs) = list_any-append p (f x) (flat_map f xs) ∙ ap (λ b. list_any p (f x) || b) (any_flat p f xs)

-- what is found was an answer
found_at : (answer : ℕ → Option Sighting) (ks : List ℕ) (s : Sighting) → first_where answer ks ≡ Some s → (k : ℕ) × (answer k ≡ Some s)
unfolding first_where
found_at answer [] s e = absurd (cc)
found_at answer (k ∷ ks) s e = by_cases (answer k) refl e (found_at answer ks s)
  where
    by_cases : (o : Option Sighting) → answer k ≡ o → option_or o (first_where answer ks) ≡ Some s → (first_where answer ks ≡ Some s → (j : ℕ) × (answer j ≡ Some s))
        → (j : ℕ) × (answer j ≡ Some s)
    by_cases None a b more = more b
    by_cases (Some other) a b more = (k, a ∙ b)

-- of a run and a cycle both are told
both_told : (k : ℕ) (o : Option ℕ) (s : Sighting) → option_map (λ t. let seen : Sighting = record { run = k; cycle = t } in seen) o ≡ Some s
    → (k ≡ s.run) × (o ≡ Some s.cycle)
both_told k None s e = absurd (cc)
both_told k (Some t) s e =
    let is : (let seen : Sighting = record { run = k; cycle = t } in seen) ≡ s = cc in
    (ap (λ (seen : Sighting). seen.run) is, ap (λ (seen : Sighting). Some seen.cycle) is)

find_same : {X : Type 0} (p q : X → Bool) (xs : List X) → All (λ x. p x ≡ q x) xs → find p xs ≡ find q xs
find_same p q [] all = refl
find_same p q (x ∷ xs) all =
    ap (λ b. cond b (Some x) (find p xs)) (All-head (λ y. p y ≡ q y) x xs all)
    ∙ ap (λ o. cond (q x) (Some x) o) (find_same p q xs (All-tail (λ y. p y ≡ q y) x xs all))

-- at the first of several the tests that pass are those whose own first is this one
module _ {X : Type 0} (n u : ℕ) (test : X → ℕ → Bool) (xs : List X) (first : IsFirst n (λ t. list_any (λ x. test x t) xs) u) where
  passes_then : (x : X) (o : Option ℕ) → IsFirstOf n (test x) o → is_at o u ≡ true → test x u ≡ true
  passes_then x None none e = absurd (cc)
  passes_then x (Some t) own e = ap (test x) (sym (eqb-true t u e)) ∙ own.passes

  at_first : All (λ x. test x u ≡ is_at (first_below n (test x)) u) xs
  at_first k d lt = same_test (test x u) (is_at (first_below n (test x)) u)
      (λ is.
      let own : IsFirst n (test x) u = record {
        within = first.within;
        passes = is;
        before = λ v less. false_of (test x v) (λ loud. clash (list_any (λ y. test y v) xs) (list_any_at (λ y. test y v) xs k d lt loud) (first.before v less));
      } in
      ap (λ o. is_at o u) (first_found n (test x) (Some u) own) ∙ eq-eqb u u refl)
      (passes_then x (first_below n (test x)) (first_is n (test x)))
    where
      x : X
      x = get_or xs k d

module _ (p : Analysis) (f : Fault) where
  abbrev mission_seen : Run → Bool → Option ℕ
  mission_seen run mission = if mission then earliest (map (first_difference p.circuit (f ∷ []) run) p.points.goals) else None

  by_kind : (run : Run) (mission : Bool)
      → first_below (cycles_of run) (λ t. mission && list_any (is_changed p f run t) (flat_map (λ (goal : Goal). goal.observe) p.points.goals)) ≡ mission_seen run mission
  by_kind run true =
      (λ i. first_below (cycles_of run) (λ t. any_flat (is_changed p f run t) (λ (goal : Goal). goal.observe) p.points.goals i))
      ∙ several Goal (cycles_of run) (λ goal. differs p.circuit goal (f ∷ []) run) p.points.goals
  by_kind run false = first_found (cycles_of run) (λ t. false) None (λ u lt. refl)

  reached_shown : reached p f ≡ first_shown p f (λ s. if is_mission s.kind then earliest (map s.difference p.points.goals) else None)
  reached_shown = λ i. first_where (λ k. option_map (λ t. let seen : Sighting = record { run = k; cycle = t } in seen)
      (by_kind (run_at p.runs k) (is_mission (run_at p.runs k).kind) i)) (below (length p.runs))

  alarmed_shown : alarmed p f ≡ first_shown p f (λ s. earliest (map s.alarm p.points.alarm))
  alarmed_shown = λ i. first_where (λ k. option_map (λ t. let seen : Sighting = record { run = k; cycle = t } in seen)
      (alarms_first p.circuit p.points (f ∷ []) (run_at p.runs k) i)) (below (length p.runs))

  -- the first cycle of an alarm is the first of its run
  alarm_first : (s : Sighting) → alarmed p f ≡ Some s → IsFirst (cycles_of (run_at p.runs s.run)) (is_raised p.circuit p.points (f ∷ []) (run_at p.runs s.run)) s.cycle
  alarm_first s e =
      let found = found_at (λ k. option_map (λ t. record { run = k; cycle = t }) (first_below (cycles_of (run_at p.runs k)) (is_raised p.circuit p.points (f ∷ []) (run_at p.runs k))))
      (below (length p.runs)) s e in
      let told = both_told found.0 (first_below (cycles_of (run_at p.runs found.0)) (is_raised p.circuit p.points (f ∷ []) (run_at p.runs found.0))) s found.1 in
      subst (λ k. IsFirst (cycles_of (run_at p.runs k)) (is_raised p.circuit p.points (f ∷ []) (run_at p.runs k)) s.cycle) told.0
      (subst (IsFirstOf (cycles_of (run_at p.runs found.0)) (is_raised p.circuit p.points (f ∷ []) (run_at p.runs found.0))) told.1
      (first_is (cycles_of (run_at p.runs found.0)) (is_raised p.circuit p.points (f ∷ []) (run_at p.runs found.0))))

  point_by : (o : Option Sighting) → alarmed p f ≡ o
      → option_and_then (λ s. find (λ net. is_raised_at p.circuit (f ∷ []) (run_at p.runs s.run) net s.cycle) p.points.alarm) o
      ≡ option_and_then (λ s. find (λ net. is_at (first_alarm p.circuit (f ∷ []) (run_at p.runs s.run) net) s.cycle) p.points.alarm) o
  point_by None e = refl
  point_by (Some s) e = find_same (λ net. is_raised_at p.circuit (f ∷ []) (run_at p.runs s.run) net s.cycle)
      (λ net. is_at (first_alarm p.circuit (f ∷ []) (run_at p.runs s.run) net) s.cycle) p.points.alarm
      (at_first (cycles_of (run_at p.runs s.run)) s.cycle (is_raised_at p.circuit (f ∷ []) (run_at p.runs s.run)) p.points.alarm (alarm_first s e))

-- SIGHTINGS
pub sightings : AllSightingsAreShown
sightings p f = record { reach = reached_shown p f; alarm = alarmed_shown p f; point = point_by p f (alarmed p f) refl }
