-- Which reading stands at which place of the list: that of the plan and that of each goal, each with the one without alarms behind it.
use Rattle.std.proofs.Common.{◌≡◌, ◌∙◌, ℕ, zero, suc, ◌+◌, ◌*◌, ◌<◌, ◌≤◌, Bool, true, false, List, [], ◌∷◌, ◌++◌, inl, inr, length, flat_map, refl, ap, sym, arith, get_or-append-add, length-append}
use Rattle.std.specs.Prelude.{nat_lt, if◌then◌else◌}
use Rattle.std.proofs.lemmas.Bool.{cases_lt}
use Rattle.std.proofs.lemmas.List.{get_or_append_left}
use Rattle.std.proofs.lemmas.List.Concat.{flat_map-append}
use Rattle.fm_base.specs.Lists.{below}
use Rattle.fm_base.proofs.Below.{below_push}
use Rattle.campaign_plan.specs.Analysis.{Analysis}
use Rattle.reading_planes.specs.Folded.{reading_at}
use Rattle.reading_planes.specs.Readings.{coverage_list, pair_of}
use Rattle.reading_planes.specs.declared.reading.Reading.{Reading}
use Rattle.reading_planes.specs.declared.reading.Reading.TheVariants.{Bare, BareGoal, Goal as GoalAlone, Whole}
use Rattle.metric_coverage.specs.Findings.{several}

pairs : ℕ → List Reading
pairs n = flat_map pair_of (below n)

pairs_push : (n : ℕ) → pairs (suc n) ≡ pairs n ++ GoalAlone n ∷ BareGoal n ∷ []
unfolding pairs
pairs_push n = ap (flat_map pair_of) (below_push n) ∙ flat_map-append pair_of (below n) (n ∷ [])

pairs_length : (n : ℕ) → length (pairs n) ≡ 2 * n
unfolding pairs below
pairs_length zero = refl
pairs_length (suc n) =
    let more = length-append (pairs n) (GoalAlone n ∷ BareGoal n ∷ []) in
    ap length (pairs_push n) ∙ more ∙ omega (arith, pairs_length n)

module _ (own : ℕ → Reading) (place : ℕ) (at : (n : ℕ) → reading_at (GoalAlone n ∷ BareGoal n ∷ []) place ≡ own n) (small : place < 2) where
  pair_at : (n g : ℕ) → g < n → reading_at (pairs n) (2 * g + place) ≡ own g
  pair_at zero g lt = absurd (omega (arith, lt))
  pair_at (suc n) g lt =
      ap (λ (list : List Reading). reading_at list (2 * g + place)) (pairs_push n)
      ∙ elim (cases_lt g n) [
        | inl less ↦
            let within : 2 * g + place < length (pairs n) = omega (arith, less, small, pairs_length n) in
            get_or_append_left (pairs n) (GoalAlone n ∷ BareGoal n ∷ []) Whole (2 * g + place) within ∙ pair_at n g less
        | inr most ↦
            let last : g ≡ n = omega (arith, lt, most) in
            let number : 2 * g + place ≡ length (pairs n) + place = omega (arith, last, pairs_length n) in
            ap (reading_at (pairs n ++ GoalAlone n ∷ BareGoal n ∷ [])) number
            ∙ get_or-append-add (pairs n) (GoalAlone n ∷ BareGoal n ∷ []) place Whole
            ∙ at n ∙ ap own (sym last)
      ]

-- how many goals have a reading of their own
goal_count : (p : Analysis) → (if nat_lt 1 (length p.points.goals) then length p.points.goals else 0) ≡ length (several p)
goal_count p = by_cases (nat_lt 1 (length p.points.goals))
  where
    by_cases : (b : Bool) → (if b then length p.points.goals else 0) ≡ length (if b then p.points.goals else [])
    by_cases true = refl
    by_cases false = refl

pub several_within : (p : Analysis) → length (several p) ≤ length p.points.goals
several_within p = by_cases (nat_lt 1 (length p.points.goals))
  where
    by_cases : (b : Bool) → length (if b then p.points.goals else []) ≤ length p.points.goals
    by_cases true = omega arith
    by_cases false = omega arith

-- the whole list
listed : (p : Analysis) → coverage_list p.points ≡ Whole ∷ Bare ∷ pairs (length (several p))
unfolding pairs
listed p = ap (λ n. Whole ∷ Bare ∷ flat_map pair_of (below n)) (goal_count p)

pub list_length : (p : Analysis) → length (coverage_list p.points) ≡ 2 * length (several p) + 2
list_length p = ap length (listed p) ∙ omega (arith, pairs_length (length (several p)))

behind : (a b : Reading) (rest : List Reading) (n : ℕ) → reading_at (a ∷ b ∷ rest) (n + 2) ≡ reading_at rest n
behind a b rest n = let same : n + 2 ≡ suc (suc n) = omega arith in ap (reading_at (a ∷ b ∷ rest)) same

pub goal_listed : (p : Analysis) (g : ℕ) → g < length (several p) → reading_at (coverage_list p.points) (2 * g + 2) ≡ GoalAlone g
goal_listed p g lt =
    let same : 2 * g ≡ 2 * g + 0 = omega arith in
    ap (λ (list : List Reading). reading_at list (2 * g + 2)) (listed p) ∙ behind Whole Bare (pairs (length (several p))) (2 * g)
    ∙ ap (reading_at (pairs (length (several p)))) same
    ∙ pair_at (λ n. GoalAlone n) 0 (λ n. refl) (omega arith) (length (several p)) g lt

pub bare_listed : (p : Analysis) (g : ℕ) → g < length (several p) → reading_at (coverage_list p.points) (2 * g + 3) ≡ BareGoal g
bare_listed p g lt =
    let same : 2 * g + 3 ≡ 2 * g + 1 + 2 = omega arith in
    ap (reading_at (coverage_list p.points)) same
    ∙ ap (λ (list : List Reading). reading_at list (2 * g + 1 + 2)) (listed p) ∙ behind Whole Bare (pairs (length (several p))) (2 * g + 1)
    ∙ pair_at (λ n. BareGoal n) 1 (λ n. refl) (omega arith) (length (several p)) g lt
