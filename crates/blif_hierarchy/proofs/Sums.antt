-- Numbers of models, in rounds: capped sums over instances, and nests.
use Rattle.std.proofs.Common.{◌≡◌, ℕ, zero, suc, ◌+◌, min, Bool, true, false, ◌||◌, List, [], ◌∷◌, refl, ap, ap₂, sym, ◌∙◌, zero-add, map, arith}
use Rattle.std.specs.Prelude.{Option, Some, None, option_map, slice_get, slice_index, sum_by, unwrap_or, Vec}
use Rattle.std.specs.List.{cons_option, list_any}
use Rattle.std.specs.declared.alloc.Global.{Global}
use Rattle.std.proofs.lemmas.List.Sums.{sum_by-cons}
use Rattle.std.proofs.lemmas.Option.{slice_get-map, unwrap_or-slice_get}
use Rattle.blif_model.specs.Models.{Model, has_nest, instances, sum_over_instances}
use Rattle.blif_hierarchy.specs.Callees.{AllCallees, callee_of, callees_of, models_at}
use Rattle.blif_hierarchy.specs.Rounds.{next_round, one_if, rounds}
use Rattle.blif_hierarchy.proofs.Called.{any-filter_map, sum-filter_map}

-- the cap of a sum is the cap of the sum of the capped parts
cap_sum : {X : Type 0} (cap : ℕ) (x : X → ℕ) (a : ℕ) (is : List X)
    → min cap (min cap a + sum_by (λ i. min cap (x i)) is) ≡ min cap (a + sum_by x is)
cap_sum cap x a [] = omega arith
cap_sum {X} cap x a (i ∷ is) =
    let more = cap_sum cap x a is in
    rw (sum_by-cons (λ (k : X). min cap (x k)) i is, sum_by-cons x i is) (omega arith)

-- some pass where the number of those that pass is 1 or more
cap_any : {X : Type 0} (test : X → Bool) (xs : List X) → min 1 (0 + sum_by (λ x. one_if (test x)) xs) ≡ one_if (list_any test xs)
cap_any test [] = refl
cap_any {X} test (x ∷ xs) =
    let more = cap_any test xs in
    rw (sum_by-cons (λ (y : X). one_if (test y)) x xs)
    (elim (test x) as (λ b. min 1 (0 + (one_if b + sum_by (λ y. one_if (test y)) xs)) ≡ one_if (b || list_any test xs)) [
      | true ↦ omega arith
      | false ↦ omega arith
    ])

module _ (models : List Model) (cs : List (Vec ℕ Global)) (all : AllCallees models models cs) where
  -- the numbers that stand at places are those of the models at them
  sum_at : (g : Model → ℕ) (ks : List ℕ) → sum_by (λ k. slice_index (map g models) k) ks ≡ sum_by g (models_at models ks)
  sum_at g [] = refl
  sum_at g (k ∷ ks) =
      let read : slice_index (map g models) k ≡ unwrap_or (option_map g (slice_get models k)) 0 =
      sym (unwrap_or-slice_get (map g models) k 0) ∙ ap (λ (o : Option ℕ). unwrap_or o 0) (slice_get-map g models k) in
      let rest : List Model = models_at models ks in
      sum_by-cons (slice_index (map g models)) k ks ∙ ap₂ (λ a b. a + b) read (sum_at g ks)
      ∙ elim (slice_get models k) as (λ o. unwrap_or (option_map g o) 0 + sum_by g rest ≡ sum_by g (cons_option o rest)) [
        | None ↦ zero-add (sum_by g rest)
        | Some m ↦ sym (sum_by-cons g m rest)
      ]

  -- a round
  one_round : (cap : ℕ) (f g h : Model → ℕ) → ((m : Model) → min cap (f m + sum_by g (callees_of models m)) ≡ h m)
      → (ms : List Model) (ds : List (Vec ℕ Global)) → AllCallees models ms ds → next_round cap (map f ms) ds (map g models) ≡ map h ms
  one_round cap f g h each [] ds e = refl
  one_round cap f g h each (m ∷ ms) [] e = cc
  one_round cap f g h each (m ∷ ms) (d ∷ ds) e =
      let here : models_at models d.items ≡ callees_of models m = cc in
      let rest : AllCallees models ms ds = cc in
      rw (sum_at g d.items, here, each m, one_round cap f g h each ms ds rest) refl

  module _ (f : Model → ℕ) (cap : ℕ) where
    abbrev own : Model → ℕ
    own m = min cap (f m)

    abbrev total : ℕ → Model → ℕ
    total depth = sum_over_instances f models depth

    sums_after : (depth : ℕ) → rounds cap (map own models) cs (map own models) depth ≡ map (λ m. min cap (total depth m)) models
    unfolding rounds sum_over_instances
    sums_after zero = refl
    sums_after (suc depth) =
        ap (next_round cap (map own models) cs) (sums_after depth)
        ∙ one_round cap own (λ (m : Model). min cap (total depth m)) (λ (m : Model). min cap (total (suc depth) m))
        (λ m. cap_sum cap (total depth) (f m) (callees_of models m)
        ∙ ap (λ n. min cap (f m + n)) (sum-filter_map (total depth) (callee_of models) (instances m))) models cs all

  abbrev nested : ℕ → Model → ℕ
  nested depth m = one_if (has_nest models depth m)

  nests_after : (depth : ℕ) → rounds 1 (map (λ m. 0) models) cs (map (λ m. 1) models) depth ≡ map (nested depth) models
  unfolding rounds has_nest
  nests_after zero = refl
  nests_after (suc depth) =
      ap (next_round 1 (map (λ (m : Model). 0) models) cs) (nests_after depth)
      ∙ one_round 1 (λ (m : Model). 0) (nested depth) (nested (suc depth))
      (λ m. cap_any (has_nest models depth) (callees_of models m)
      ∙ ap one_if (any-filter_map (has_nest models depth) (callee_of models) (instances m))) models cs all

  -- the numbers that the rounds of the program give
  pub sums_are : (given : List ℕ) (cap depth : ℕ) (numbers : List ℕ) → numbers ≡ rounds cap given cs given depth
      → (f : Model → ℕ) → given ≡ map (λ m. min cap (f m)) models
      → numbers ≡ map (λ m. min cap (sum_over_instances f models depth m)) models
  sums_are given cap depth numbers ran f e = ran ∙ ap (λ (o : List ℕ). rounds cap o cs o depth) e ∙ sums_after f cap depth

  pub nests_are : (none first : List ℕ) (depth : ℕ) → none ≡ map (λ m. 0) models → first ≡ map (λ m. 1) models
      → (numbers : List ℕ) → numbers ≡ rounds 1 none cs first depth → numbers ≡ map (λ m. one_if (has_nest models depth m)) models
  nests_are none first depth e f numbers ran = ran ∙ ap₂ (λ (o b : List ℕ). rounds 1 o cs b depth) e f ∙ nests_after depth
