-- A model that reaches a name does so by no more instances than there are models.
use Rattle.std.proofs.Common.{◌≡◌, ℕ, zero, suc, ◌+◌, ◌-◌, ◌<◌, ◌≤◌, ◌⊎◌, Bool, true, false, cond, inl, inr, List, refl, ap, sym, ◌∙◌, length, take, drop, get_or, arith}
use Rattle.std.specs.Prelude.{Option, Some, None, bytes_eq, count_by, slice_get}
use Rattle.std.specs.List.{position_or_len}
use Rattle.std.proofs.lemmas.Bool.{cases_Bool, false_from_ne_true, or_cases, or_left, or_right}
use Rattle.std.proofs.lemmas.List.Folds.{Any-from_list_any, find_at, list_any-from_Any}
use Rattle.std.proofs.lemmas.List.Sums.{count_by-le-length, sum_by-drop_more, sum_by-le-sum_by, sum_by-take-drop}
use Rattle.std.proofs.lemmas.Option.{get_or_from_slice_get, slice_get_within}
use Rattle.fm_base.specs.Names.{Name}
use Rattle.fm_base.proofs.Tests.{clash}
use Rattle.blif_model.specs.Models.{Model, Instance, at_model, instances, model_named, reaches}
use Rattle.fm_base.proofs.Options.{found_passes}
use Rattle.blif_hierarchy.proofs.Called.{some_callee}

-- a model that is found passes
pub passing : (test : Model → Bool) (o : Option Model) → found_passes test o ≡ true → (z : Model) × (o ≡ Some z) × (test z ≡ true)
passing test None e = cc
passing test (Some z) e = (z, refl, e)

-- more pass a wider test that one more passes
count_more : {X : Type 0} (p q : X → Bool) (xs : List X) (k : ℕ) (x : X) → ((y : X) → p y ≡ true → q y ≡ true)
    → slice_get xs k ≡ Some x → p x ≡ false → q x ≡ true → count_by p xs < count_by q xs
count_more {X} p q xs k x wider at fails passes =
    let P : X → ℕ = λ y. cond (p y) 1 0 in
    let Q : X → ℕ = λ y. cond (q y) 1 0 in
    let lt = slice_get_within xs k x at in
    let here = get_or_from_slice_get xs k x x at in
    let none : P (get_or xs k x) ≡ 0 = ap P here ∙ ap (λ b. cond b 1 0) fails in
    let one : Q (get_or xs k x) ≡ 1 = ap Q here ∙ ap (λ b. cond b 1 0) passes in
    let each : (y : X) → P y ≤ Q y = λ y. le_if (p y) (q y) (wider y) in
    omega (
      arith,
      sum_by-take-drop P xs k,
      sum_by-take-drop Q xs k,
      sum_by-drop_more P xs k x lt,
      sum_by-drop_more Q xs k x lt,
      sum_by-le-sum_by P Q (take k xs) each,
      sum_by-le-sum_by P Q (drop (k + 1) xs) each,
    )
  where
    le_if : (a b : Bool) → (a ≡ true → b ≡ true) → cond a 1 0 ≤ cond b 1 0
    le_if a b h = grind arith

module _ (models : List Model) (name : Name) where
  abbrev reach : ℕ → Model → Bool
  reach steps = reaches models steps name

  -- a model that one model instances, and that reaches the name
  abbrev Callee : ℕ → Model → Type 0
  Callee n m =
      (z : Model) × (k : ℕ) × (slice_get models k ≡ Some z) × (reach n z ≡ true) × ((p : ℕ) → reach p z ≡ true → reach (suc p) m ≡ true)

  one_step : (n : ℕ) (m : Model) → reach (suc n) m ≡ true → (bytes_eq m.name name ≡ true) ⊎ Callee n m
  unfolding reaches
  one_step n m e = elim (or_cases (bytes_eq m.name name) (some_callee models (reach n) m) e) [
    | inl h ↦ inl h
    | inr h ↦
        (let w = Any-from_list_any (λ (i : Instance). at_model models i.name (reach n) false) (instances m) h in
        let z = passing (reach n) (model_named models w.1.name) w.4 in
        let named : Model → Bool = λ y. bytes_eq y.name w.1.name in
        inr (
          z.0,
          position_or_len named models,
          sym (find_at named models) ∙ z.1,
          z.2,
          λ p r. or_right (bytes_eq m.name name) _
              (list_any-from_Any (λ (i : Instance). at_model models i.name (reach p) false) (instances m)
              (w.0, w.1, w.2, w.3, ap (found_passes (reach p)) z.1 ∙ r)),
        ))
  ]

  -- a name that is reached is reached by more instances too
  wider : (n : ℕ) (m : Model) → reach n m ≡ true → reach (suc n) m ≡ true
  unfolding reaches
  wider zero m e = or_left (bytes_eq m.name name) _ e
  wider (suc n) m e = elim (one_step n m e) [ inl h ↦ or_left (bytes_eq m.name name) _ h | inr s ↦ s.4 (suc n) (wider n s.0 s.3) ]

  much_wider : (more n k : ℕ) (m : Model) → more + n ≡ k → reach n m ≡ true → reach k m ≡ true
  much_wider zero n k m same e = let here : k ≡ n = omega arith in ap (λ j. reach j m) here ∙ e
  much_wider (suc more) n k m same e =
      let here : k ≡ suc (more + n) = omega arith in
      ap (λ j. reach j m) here ∙ wider (more + n) m (much_wider more n (more + n) m refl e)

  -- where one instance fewer is too few, each one more reaches the name from one more model
  many : (n : ℕ) (m : Model) → reach (suc n) m ≡ true → reach n m ≡ false → n < count_by (reach n) models
  unfolding reaches
  many zero m e fails = elim (one_step 0 m e) [
    | inl h ↦ absurd (clash (reach 0 m) h fails)
    | inr s ↦
        (let more = count_more (λ (y : Model). false) (reach 0) models s.1 s.0 (λ y f. absurd (clash false f refl)) s.2 refl s.3 in
        omega arith)
  ]
  many (suc n) m e fails = elim (one_step (suc n) m e) [
    | inl h ↦ absurd (clash (reach (suc n) m) (or_left (bytes_eq m.name name) _ h) fails)
    | inr s ↦
        (let less = false_from_ne_true (reach n s.0) (λ h. clash (reach (suc n) m) (s.4 n h) fails) in
        let before = many n s.0 s.3 less in
        let more = count_more (reach n) (reach (suc n)) models s.1 s.0 (wider n) s.2 less s.3 in
        omega arith)
  ]

  pub reach_few : (n : ℕ) (m : Model) → reach n m ≡ true → reach (length models) m ≡ true
  reach_few zero m e = much_wider (length models) 0 (length models) m (omega arith) e
  reach_few (suc n) m e = elim (cases_Bool (reach n m)) [
    | inl h ↦ reach_few n m h
    | inr h ↦
        (let few = count_by-le-length (reach n) models in
        let some = many n m e h in
        much_wider (length models - suc n) (suc n) (length models) m (omega arith) e)
  ]
