-- A lane that has left a run doesn't come back, and a lane that has not isn't dropped.
use Rattle.std.proofs.Common.{◌≡◌, ◌<◌, ◌≤◌, ◌+◌, ◌-◌, ◌⊎◌, inl, inr, ℕ, zero, suc, Bool, true, false, ◌&&◌, ◌||◌, List, [], length, get_or, refl, ap, ap₂, sym, ◌∙◌, subst, arith}
use Rattle.std.specs.List.{list_any}
use Rattle.std.proofs.lemmas.Bool.{cases_Bool, or_parts, true≢false}
use Rattle.std.proofs.lemmas.List.Folds.{list_any_at, list_any_none}
use Rattle.circuit.specs.declared.parts.Fault.{Fault}
use Rattle.circuit.specs.Circuit.{Circuit}
use Rattle.workload.specs.declared.run.Run.{Run}
use Rattle.alarm_points.specs.declared.Goal.{Goal}
use Rattle.alarm_points.specs.declared.Points.{Points}
use Rattle.alarm_points.specs.Interval.{interval_of}
use Rattle.alarm_points.specs.Watch.{AreMadeFor, Watches, differs_in, is_settled, raised_in, window_at}
use Rattle.alarm_points.proofs.Settled.{is_settled-same, settled_none}
use Rattle.alarm_points.proofs.Passed.{settled_on}
use Rattle.fm_base.specs.Lists.{some_below}
use Rattle.fm_base.specs.Planes.{bit}
use Rattle.fm_base.proofs.Below.{some_below-true}
use Rattle.fm_base.proofs.Tests.{both_false, clash, false_of}
use Rattle.campaign_plan.specs.Danger.{differs, is_raised}
use Rattle.classifier.specs.Seen.{HasSeen, HaveSeen, has_left, is_dropped, is_noticed_by, is_settled_by}
use Rattle.classifier.proofs.Notice.{noticed_none, noticed_stays}
use Rattle.classifier.proofs.WindowCounts.{interval_at, window_count}
use Rattle.testbench.specs.Points.{goal_at}

-- a test that no item passes is passed by none that passes another that implies it
fewer : {X : Type 0} (p q : X → Bool) (xs : List X) → ((x : X) → p x ≡ true → q x ≡ true) → list_any q xs ≡ false → list_any p xs ≡ false
fewer p q xs implies none = list_any_none p xs (λ i d lt. false_of (p (get_or xs i d)) (λ is. clash (list_any q xs) (list_any_at q xs i d lt (implies (get_or xs i d) is)) none))

settled_stays : (c : Circuit) (points : Points) (ftti : ℕ) (x : List Fault) (run : Run) (n : ℕ) → is_settled_by c points ftti x run (n + 1) ≡ false → is_settled_by c points ftti x run n ≡ false
settled_stays c points ftti x run n none =
    fewer (λ (goal : Goal). is_settled (interval_of ftti goal) n (differs c goal x run) (is_raised c points x run))
    (λ (goal : Goal). is_settled (interval_of ftti goal) (n + 1) (differs c goal x run) (is_raised c points x run)) points.goals
    (λ goal is. settled_on (interval_of ftti goal) n (differs c goal x run) (is_raised c points x run) is) none

neither : (a b d e known : Bool) → (a || (known && b)) ≡ false → (a ≡ false → d ≡ false) → (b ≡ false → e ≡ false) → (d || (known && e)) ≡ false
neither true b d e known h f g = absurd (true≢false h)
neither false true d e true h f g = absurd (true≢false h)
neither false false d e true h f g = ap₂ (λ p q. p || q) (f refl) (g refl)
neither false b d e false h f g = ap (λ p. p || false) (f refl)

-- a lane whose notice is open leaves once it is noticed, and for nothing else
pub open_stays : (c : Circuit) (points : Points) (ftti : ℕ) (known : Bool) (x : List Fault) (run : Run) (n : ℕ) → known ≡ false → is_noticed_by c points x run n ≡ false
    → has_left c points ftti known x run n ≡ false
open_stays c points ftti known x run n free none =
    both_false (is_noticed_by c points x run n) (known && is_settled_by c points ftti x run n) none (ap (λ b. b && is_settled_by c points ftti x run n) free)

module _ (c : Circuit) (points : Points) (ftti : ℕ) (known : Bool) (x : List Fault) (run : Run) where
  left : ℕ → Bool
  left n = has_left c points ftti known x run n

  pub left_stays : (n : ℕ) → has_left c points ftti known x run (n + 1) ≡ false → has_left c points ftti known x run n ≡ false
  left_stays n none =
      neither (is_noticed_by c points x run (n + 1)) (is_settled_by c points ftti x run (n + 1)) (is_noticed_by c points x run n) (is_settled_by c points ftti x run n) known none
      (noticed_stays c points x run n) (settled_stays c points ftti x run n)

  before : (t j : ℕ) → has_left c points ftti known x run (t + j) ≡ false → has_left c points ftti known x run t ≡ false
  before t zero none = let here : t + 0 ≡ t = omega arith in sym (ap (has_left c points ftti known x run) here) ∙ none
  before t (suc j) none =
      let next : t + suc j ≡ t + j + 1 = omega arith in
      before t j (left_stays (t + j) (sym (ap (has_left c points ftti known x run) next) ∙ none))

  pub left_before : (t n : ℕ) → t ≤ n → has_left c points ftti known x run n ≡ false → has_left c points ftti known x run t ≡ false
  left_before t n le none = let last : t + (n - t) ≡ n = omega (arith, le) in before t (n - t) (ap (has_left c points ftti known x run) last ∙ none)

  pub left_none : has_left c points ftti known x run 0 ≡ false
  left_none =
      neither false false (is_noticed_by c points x run 0) (is_settled_by c points ftti x run 0) known (both known)
      (λ e. noticed_none c points x run)
      (λ e. list_any_none (λ (goal : Goal). is_settled (interval_of ftti goal) 0 (differs c goal x run) (is_raised c points x run)) points.goals
      (λ i d lt. settled_none (interval_of ftti (get_or points.goals i d)) (differs c (get_or points.goals i d) x run) (is_raised c points x run)))
    where
      both : (k : Bool) → (false || (k && false)) ≡ false
      both true = refl
      both false = refl

  -- the cycle in which a lane leaves
  pub leaves_at : (n : ℕ) → has_left c points ftti known x run n ≡ true
      → (m : ℕ) × (m < n) × (has_left c points ftti known x run m ≡ false) × (has_left c points ftti known x run (m + 1) ≡ true)
  leaves_at zero is = absurd (true≢false (sym is ∙ left_none))
  leaves_at (suc n) is = by_cases (cases_Bool (has_left c points ftti known x run n)) (leaves_at n)
    where
      by_cases : (has_left c points ftti known x run n ≡ true) ⊎ (has_left c points ftti known x run n ≡ false)
          → (has_left c points ftti known x run n ≡ true
          → (m : ℕ) × (m < n) × (has_left c points ftti known x run m ≡ false) × (has_left c points ftti known x run (m + 1) ≡ true))
          → (m : ℕ) × (m < suc n) × (has_left c points ftti known x run m ≡ false) × (has_left c points ftti known x run (m + 1) ≡ true)
      by_cases (inl already) earlier =
          let found : (m : ℕ) × (m < n) × (has_left c points ftti known x run m ≡ false) × (has_left c points ftti known x run (m + 1) ≡ true) = earlier already in
          (found.0, omega (arith, found.1), found.2, found.3)
      by_cases (inr none) earlier = let next : n + 1 ≡ suc n = omega arith in (n, omega arith, none, ap (has_left c points ftti known x run) next ∙ is)

-- what a window has settled in a lane by a cycle before which the lane hasn't left
pub window_settled : (c : Circuit) (points : Points) (run : Run) (faults : ℕ → List Fault) (known n m k g : ℕ) (ws : Watches) → AreMadeFor points ws → g < length points.goals → k < 64 → m ≤ n
    → (seen : HasSeen c points ws.ftti run faults known (goal_at points.goals g) n (window_at ws g))
    → ((t : ℕ) → t < m → has_left c points ws.ftti (bit known k) (faults k) run t ≡ false)
    → is_settled (window_at ws g).ftti m (differs_in seen.pairs k) (raised_in seen.pairs k)
    ≡ is_settled (interval_of ws.ftti (goal_at points.goals g)) m (differs c (goal_at points.goals g) (faults k) run) (is_raised c points (faults k) run)
window_settled c points run faults known n m k g ws made within lane le seen here =
    is_settled-same (window_at ws g).ftti m (differs_in seen.pairs k) (differs c (goal_at points.goals g) (faults k) run) (raised_in seen.pairs k) (is_raised c points (faults k) run)
    (λ t lt. (seen.shown k t lane (omega (arith, lt, le)) (here t lt)).differ)
    (λ t lt. (seen.shown k t lane (omega (arith, lt, le)) (here t lt)).raise)
    ∙ ap (λ f. is_settled f m (differs c (goal_at points.goals g) (faults k) run) (is_raised c points (faults k) run)) (interval_at points ws g made within)

-- A LANE THAT HASN'T LEFT isn't dropped
pub not_dropped : (c : Circuit) (points : Points) (run : Run) (faults : ℕ → List Fault) (known n : ℕ) (ws : Watches) (noticed k : ℕ) → k < 64
    → HaveSeen c points run faults known n ws noticed → has_left c points ws.ftti (bit known k) (faults k) run n ≡ false → is_dropped known ws noticed k ≡ false
not_dropped c points run faults known n ws noticed k lane seen none =
    both_false (bit noticed k) _ (seen.stays k lane none) (by_known (bit known k) refl (or_parts _ _ none).1)
  where
    count : length ws.windows ≡ length points.goals
    count = window_count points ws seen.made

    unsettled : is_settled_by c points ws.ftti (faults k) run n ≡ false → some_below (length ws.windows) (λ g. bit (window_at ws g).settled k) ≡ false
    unsettled never = false_of _ (λ some.
        let found : (g : ℕ) × (g < length ws.windows) × (bit (window_at ws g).settled k ≡ true) = some_below-true (length ws.windows) (λ g. bit (window_at ws g).settled k) some in
        let within : found.0 < length points.goals = subst (λ m. found.0 < m) count found.1 in
        let own : HasSeen c points ws.ftti run faults known (goal_at points.goals found.0) n (window_at ws found.0) = seen.seen found.0 within in
        clash (is_settled_by c points ws.ftti (faults k) run n)
        (list_any_at (λ (goal : Goal). is_settled (interval_of ws.ftti goal) n (differs c goal (faults k) run) (is_raised c points (faults k) run)) points.goals found.0 (goal_at [] 0) within
        (sym (window_settled c points run faults known n n k found.0 ws seen.made within lane (omega arith) own (λ t lt. left_before c points ws.ftti (bit known k) (faults k) run t n (omega (arith, lt)) none))
        ∙ ap (λ m. is_settled (window_at ws found.0).ftti m (differs_in own.pairs k) (raised_in own.pairs k)) (sym own.count)
        ∙ sym (own.after.settled k lane) ∙ found.2))
        never)

    by_known : (b : Bool) → bit known k ≡ b → (bit known k && is_settled_by c points ws.ftti (faults k) run n) ≡ false
        → (bit known k && some_below (length ws.windows) (λ g. bit (window_at ws g).settled k)) ≡ false
    by_known true e h =
        ap (λ b. b && some_below (length ws.windows) (λ g. bit (window_at ws g).settled k)) e
        ∙ unsettled (sym (ap (λ b. b && is_settled_by c points ws.ftti (faults k) run n) e) ∙ h)
    by_known false e h = ap (λ b. b && some_below (length ws.windows) (λ g. bit (window_at ws g).settled k)) e
