-- A loop that changes one item of a list after the other.
use Rattle.std.proofs.Common.{◌≡◌, ◌≢◌, ◌+◌, ◌<◌, ◌≤◌, ℕ, List, length, get_or, set, refl, ◌∙◌, subst, arith, get_or-set_other, length-set}
use Rattle.classifier.proofs.EachWord.{each_set_one}

-- the first n items have made a step, and the others are as they were
pub record HaveStepped {X : Type 0} (Step : ℕ → X → X → Type 0) (none : X) (before now : List X) (n : ℕ) : Type 0 where
  pub count : length now ≡ length before
  pub done : (i : ℕ) → i < n → Step i (get_or before i none) (get_or now i none)
  pub left : (i : ℕ) → n ≤ i → get_or now i none ≡ get_or before i none

-- before the first
pub none_stepped : {X : Type 0} (Step : ℕ → X → X → Type 0) (none : X) (xs : List X) → HaveStepped Step none xs xs 0
none_stepped Step none xs = record {
  count = refl;
  done = λ i lt. absurd (omega (arith, lt));
  left = λ i le. refl;
}

-- one more
pub one_stepped : {X : Type 0} (Step : ℕ → X → X → Type 0) (none : X) (before now : List X) (i : ℕ) (new : X)
    → HaveStepped Step none before now i → i < length now → Step i (get_or now i none) new → HaveStepped Step none before (set now i new) (i + 1)
one_stepped {X} Step none before now i new so lt step = record {
  count = length-set now i new ∙ so.count;
  done = λ j less.
      each_set_one (λ m (x : X). m < i + 1 → Step m (get_or before m none) x) now i new none lt
      (λ _. subst (λ (x : X). Step i x new) (so.left i (omega arith)) step) j
      (λ apart _. so.done j (omega (arith, apart, less))) less;
  left = λ j le.
      let apart : j ≢ i = omega (arith, le) in
      get_or-set_other now i j new none apart ∙ so.left j (omega (arith, le));
}
