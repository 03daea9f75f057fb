-- What the windows say at the end of a run.
use Rattle.std.proofs.Common.{◌≡◌, ℕ, zero, suc, ◌+◌, ◌<◌, ◌≤◌, ◌⊎◌, inl, inr, Bool, true, false, ◌&&◌, ◌||◌, List, [], ◌∷◌, length, take, get_or, refl, ap, sym, ◌∙◌, subst, arith, take_all}
use Rattle.std.specs.List.{list_any}
use Rattle.std.proofs.lemmas.Bool.{cases_Bool, cases_lt}
use Rattle.std.proofs.lemmas.List.Folds.{list_any_more}
use Rattle.circuit.specs.declared.parts.Fault.{Fault}
use Rattle.circuit.specs.Circuit.{Circuit}
use Rattle.workload.specs.declared.run.Run.{Run}
use Rattle.workload.specs.Runs.{cycles_of, is_mission}
use Rattle.alarm_points.specs.declared.Goal.{Goal}
use Rattle.alarm_points.specs.declared.Points.{Points}
use Rattle.alarm_points.specs.Interval.{goes_unalarmed, interval_of}
use Rattle.alarm_points.specs.Watch.{IsAfterPairs, Pair, Watches, differs_in, is_settled, lane_goes_unalarmed, raised_in, window_at}
use Rattle.alarm_points.proofs.Planes.{bit_of_none}
use Rattle.alarm_points.proofs.Settled.{goes_unalarmed-same, some_below-same, some_below-suc, some_below-zero}
use Rattle.alarm_points.proofs.Raised.{goes_unalarmed-dropped}
use Rattle.alarm_points.proofs.Passed.{goes_unalarmed-settled}
use Rattle.alarm_points.proofs.Still.{goes_unalarmed-still}
use Rattle.fm_base.specs.Lists.{some_below}
use Rattle.fm_base.specs.Planes.{bit}
use Rattle.fm_base.proofs.Below.{some_below-at, some_below-true}
use Rattle.fm_base.proofs.Tests.{and_both, or_cases}
use Rattle.campaign_plan.specs.Danger.{differs, is_raised}
use Rattle.classifier.specs.Seen.{HasSeen, HaveSeen, HaveSeenRun, has_left, is_noticed_by, is_settled_by}
use Rattle.classifier.proofs.Leaving.{leaves_at, left_before, window_settled}
use Rattle.classifier.proofs.Notice.{raised_in_mission}
use Rattle.classifier.proofs.Views.{still_lane, unseen_pair}
use Rattle.classifier.proofs.WindowCounts.{interval_at, window_count}
use Rattle.testbench.specs.Points.{goal_at}

-- where there is something for each number below n, some function gives it
choose : {X : Type 0} (n : ℕ) (none : X) (P : ℕ → X → Type 0) → ((g : ℕ) → g < n → (x : X) × P g x) → (f : ℕ → X) × ((g : ℕ) → g < n → P g (f g))
choose {X} n none P each = (λ g. pick g (cases_lt g n), λ g lt. right g lt (cases_lt g n))
  where
    pick : (g : ℕ) → (g < n) ⊎ (n ≤ g) → X
    pick g (inl lt) = (each g lt).0
    pick g (inr ge) = none

    right : (g : ℕ) → g < n → (s : (g < n) ⊎ (n ≤ g)) → P g (pick g s)
    right g lt (inl below) = (each g below).1
    right g lt (inr ge) = absurd (omega (arith, lt, ge))

-- a test on the items of a list, one after the other
some_taken : {X : Type 0} (p : X → Bool) (xs : List X) (none : X) (i : ℕ) → i ≤ length xs → list_any p (take i xs) ≡ some_below i (λ g. p (get_or xs g none))
some_taken p xs none zero le = sym (some_below-zero (λ g. p (get_or xs g none)))
some_taken p xs none (suc i) le =
    let next : i + 1 ≡ suc i = omega arith in
    ap (λ n. list_any p (take n xs)) (sym next)
    ∙ list_any_more p xs i none (omega arith)
    ∙ ap (λ b. b || p (get_or xs i none)) (some_taken p xs none i (omega arith))
    ∙ sym (some_below-suc i (λ g. p (get_or xs g none)))

pub some_item : {X : Type 0} (p : X → Bool) (xs : List X) (none : X) → some_below (length xs) (λ g. p (get_or xs g none)) ≡ list_any p xs
some_item p xs none = sym (some_taken p xs none (length xs) (omega arith)) ∙ ap (list_any p) (take_all (length xs) xs (omega arith))

-- a test of some item, where each is tested for one thing more
pub list_any_where : {X : Type 0} (m : Bool) (p : X → Bool) (xs : List X) → m ≡ true → list_any p xs ≡ list_any (λ x. m && p x) xs
list_any_where true p xs e = refl
list_any_where false p xs e = absurd (cc)

pub list_any_nowhere : {X : Type 0} (m : Bool) (p : X → Bool) (xs : List X) → m ≡ false → list_any (λ x. m && p x) xs ≡ false
list_any_nowhere true p xs e = absurd (cc)
list_any_nowhere false p [] e = refl
list_any_nowhere false p (x ∷ xs) e = list_any_nowhere false p xs e

-- some item that passes a test, by its number
some_at : {X : Type 0} (p : X → Bool) (xs : List X) (none : X) → list_any p xs ≡ true → (i : ℕ) × (i < length xs) × (p (get_or xs i none) ≡ true)
some_at p xs none is = some_below-true (length xs) (λ i. p (get_or xs i none)) (some_item p xs none ∙ is)

module _ (c : Circuit) (points : Points) (run : Run) (faults : ℕ → List Fault) (known : ℕ) (ws : Watches) (noticed k : ℕ) (lane : k < 64)
    (mission : is_mission run.kind ≡ true) (done : HaveSeenRun c points run faults known ws noticed) where
  abbrev seen : HaveSeen c points run faults known done.n ws noticed
  seen = done.seen

  -- the goal of a number, as its window sees it in these pairs, and as it is
  abbrev by_window : (ℕ → List Pair) → ℕ → Bool
  by_window pairs g = lane_goes_unalarmed (window_at ws g).ftti (pairs g) k

  abbrev by_goal : Goal → Bool
  by_goal goal = goes_unalarmed (interval_of ws.ftti goal) (cycles_of run) (differs c goal (faults k) run) (is_raised c points (faults k) run)

  abbrev left : ℕ → Bool
  left n = has_left c points ws.ftti (bit known k) (faults k) run n

  module _ (g : ℕ) (within : g < length points.goals) where
    abbrev own : HasSeen c points ws.ftti run faults known (goal_at points.goals g) done.n (window_at ws g)
    own = seen.seen g within

    abbrev real : ℕ → Bool
    real = differs c (goal_at points.goals g) (faults k) run

    abbrev raised : ℕ → Bool
    raised = is_raised c points (faults k) run

    abbrev ftti : ℕ
    ftti = (window_at ws g).ftti

    -- the pairs of a whole run, behind the last of which there is nothing
    longer : goes_unalarmed ftti done.n (differs_in own.pairs k) (raised_in own.pairs k) ≡ goes_unalarmed ftti (cycles_of run) (differs_in own.pairs k) (raised_in own.pairs k)
    longer = goes_unalarmed-still ftti done.n (cycles_of run) (differs_in own.pairs k) (raised_in own.pairs k)
        (record {
          within = done.within;
          differ = λ t from late. ap (λ (p : Pair). bit p.differs k) (unseen_pair own.pairs t (omega (arith, own.count, from))) ∙ bit_of_none k;
          raise = λ t from late. ap (λ (p : Pair). bit p.raised k) (unseen_pair own.pairs t (omega (arith, own.count, from))) ∙ bit_of_none k;
        })

    counted : lane_goes_unalarmed ftti own.pairs k ≡ goes_unalarmed ftti done.n (differs_in own.pairs k) (raised_in own.pairs k)
    counted = ap (λ m. goes_unalarmed ftti m (differs_in own.pairs k) (raised_in own.pairs k)) own.count

    to_goal : goes_unalarmed ftti (cycles_of run) real raised ≡ by_goal (goal_at points.goals g)
    to_goal = ap (λ f. goes_unalarmed f (cycles_of run) real raised) (interval_at points ws g seen.made within)

    -- of a lane that was followed to the end
    followed : left done.n ≡ false → lane_goes_unalarmed ftti own.pairs k ≡ by_goal (goal_at points.goals g)
    followed none =
        counted
        ∙ goes_unalarmed-same ftti done.n (differs_in own.pairs k) real (raised_in own.pairs k) raised
        (λ t lt. (own.shown k t lane lt (left_before c points ws.ftti (bit known k) (faults k) run t done.n (omega (arith, lt)) none)).differ)
        (λ t lt. (own.shown k t lane lt (left_before c points ws.ftti (bit known k) (faults k) run t done.n (omega (arith, lt)) none)).raise)
        ∙ goes_unalarmed-still ftti done.n (cycles_of run) real raised
        (still_lane c points run (faults k) g done.n within done.within (λ t from late. done.still k t lane none from late))
        ∙ to_goal

    -- of one that was followed up to an alarm
    to_alarm : (m u : ℕ) → m < done.n → left m ≡ false → u ≤ m → raised u ≡ true → lane_goes_unalarmed ftti own.pairs k ≡ by_goal (goal_at points.goals g)
    to_alarm m u lt stays early loud =
        counted ∙ longer
        ∙ goes_unalarmed-dropped ftti u (cycles_of run) (differs_in own.pairs k) (raised_in own.pairs k) real raised
        (record {
          within = omega (arith, lt, early, done.within);
          alarm = (own.shown k u lane (omega (arith, lt, early)) (left_before c points ws.ftti (bit known k) (faults k) run u m early stays)).raise ∙ loud;
          alarm' = loud;
          differ = λ t less. (own.shown k t lane (omega (arith, lt, early, less)) (left_before c points ws.ftti (bit known k) (faults k) run t m (omega (arith, early, less)) stays)).differ;
          raise = λ t less. (own.shown k t lane (omega (arith, lt, early, less)) (left_before c points ws.ftti (bit known k) (faults k) run t m (omega (arith, early, less)) stays)).raise;
        })
        ∙ to_goal

    -- of one that was followed until it was dangerous for this goal, whatever came
    dangerous : (m : ℕ) → m < done.n → left m ≡ false → is_settled (interval_of ws.ftti (goal_at points.goals g)) (m + 1) real raised ≡ true
        → (lane_goes_unalarmed ftti own.pairs k ≡ true) × (by_goal (goal_at points.goals g) ≡ true)
    dangerous m lt stays settled = (
      counted
          ∙ goes_unalarmed-settled ftti (m + 1) done.n (differs_in own.pairs k) (raised_in own.pairs k) (omega (arith, lt))
          (window_settled c points run faults known done.n (m + 1) k g ws seen.made within lane (omega (arith, lt)) own
          (λ t less. left_before c points ws.ftti (bit known k) (faults k) run t m (omega (arith, less)) stays)
          ∙ settled),
      goes_unalarmed-settled (interval_of ws.ftti (goal_at points.goals g)) (m + 1) (cycles_of run) real raised (omega (arith, lt, done.within)) settled,
    )

  -- each goal's window says what is so, or for some goal both say danger
  abbrev Agree : Type 0
  Agree = ((g : ℕ) (within : g < length points.goals) → lane_goes_unalarmed (window_at ws g).ftti (seen.seen g within).pairs k ≡ by_goal (goal_at points.goals g))
      ⊎ ((g : ℕ) × (g < length points.goals)
      × ((within : g < length points.goals) → (lane_goes_unalarmed (window_at ws g).ftti (seen.seen g within).pairs k ≡ true) × (by_goal (goal_at points.goals g) ≡ true)))

  agree : Agree
  agree = by_cases (cases_Bool (left done.n))
    where
      by_cases : (left done.n ≡ true) ⊎ (left done.n ≡ false) → Agree
      by_cases (inr none) = inl (λ g within. followed g within none)
      by_cases (inl is) =
          let at : (m : ℕ) × (m < done.n) × (left m ≡ false) × (left (m + 1) ≡ true) = leaves_at c points ws.ftti (bit known k) (faults k) run done.n is in
          elim (or_cases (is_noticed_by c points (faults k) run (at.0 + 1)) (bit known k && is_settled_by c points ws.ftti (faults k) run (at.0 + 1)) at.3) [
            | inl noticed ↦
                (let found : (u : ℕ) × (u < at.0 + 1) × (is_raised c points (faults k) run u ≡ true) =
                some_below-true (at.0 + 1) (is_raised c points (faults k) run) (sym (raised_in_mission c points (faults k) run (at.0 + 1) mission) ∙ noticed) in
                inl (λ g within. to_alarm g within at.0 found.0 at.1 at.2 (omega (arith, found.1)) found.2))
            | inr settled ↦
                (let goal : (g : ℕ) × (g < length points.goals)
                × (is_settled (interval_of ws.ftti (goal_at points.goals g)) (at.0 + 1) (differs c (goal_at points.goals g) (faults k) run) (is_raised c points (faults k) run) ≡ true) =
                some_at (λ (own : Goal). is_settled (interval_of ws.ftti own) (at.0 + 1) (differs c own (faults k) run) (is_raised c points (faults k) run)) points.goals (goal_at [] 0)
                (and_both _ _ settled).1 in
                inr (goal.0, goal.1, λ within. dangerous goal.0 within at.0 at.1 at.2 goal.2))
          ]

  count : length ws.windows ≡ length points.goals
  count = window_count points ws seen.made

  -- the pairs of each window
  pairs : (f : ℕ → List Pair) × ((g : ℕ) → g < length points.goals → (within : g < length points.goals) × (f g ≡ (seen.seen g within).pairs))
  pairs = choose (length points.goals) [] (λ g ps. (within : g < length points.goals) × (ps ≡ (seen.seen g within).pairs)) (λ g lt. ((seen.seen g lt).pairs, (lt, refl)))

  -- what goes unalarmed in a lane for some goal
  pub end_says : (plane : ℕ)
      → ((ps : ℕ → List Pair) (j : ℕ) → ((g : ℕ) → g < length ws.windows → IsAfterPairs (ps g) (window_at ws g)) → j < 64
      → bit plane j ≡ some_below (length ws.windows) (λ g. lane_goes_unalarmed (window_at ws g).ftti (ps g) j))
      → bit plane k ≡ list_any (λ (goal : Goal). goes_unalarmed (interval_of ws.ftti goal) (cycles_of run) (differs c goal (faults k) run) (is_raised c points (faults k) run)) points.goals
  end_says plane says =
      says pairs.0 k
      (λ g lt.
      let own = pairs.1 g (subst (λ n. g < n) count lt) in
      subst (λ (ps : List Pair). IsAfterPairs ps (window_at ws g)) (sym own.1) (seen.seen g own.0).after)
      lane
      ∙ ap (λ n. some_below n (by_window pairs.0)) count
      ∙ some_goal agree
      ∙ some_item by_goal points.goals (goal_at [] 0)
    where
      shown : (g : ℕ) (lt : g < length points.goals) → by_window pairs.0 g ≡ lane_goes_unalarmed (window_at ws g).ftti (seen.seen g (pairs.1 g lt).0).pairs k
      shown g lt = ap (λ (ps : List Pair). lane_goes_unalarmed (window_at ws g).ftti ps k) (pairs.1 g lt).1

      some_goal : Agree → some_below (length points.goals) (by_window pairs.0) ≡ some_below (length points.goals) (λ g. by_goal (goal_at points.goals g))
      some_goal (inl each) =
          some_below-same (length points.goals) (by_window pairs.0) (λ g. by_goal (goal_at points.goals g)) (λ g lt. shown g lt ∙ each g (pairs.1 g lt).0)
      some_goal (inr both) =
          let danger = both.2 (pairs.1 both.0 both.1).0 in
          some_below-at (length points.goals) (by_window pairs.0) both.0 both.1 (shown both.0 both.1 ∙ danger.0)
          ∙ sym (some_below-at (length points.goals) (λ g. by_goal (goal_at points.goals g)) both.0 both.1 danger.1)
