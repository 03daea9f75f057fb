-- The models that instances name, and their places.
use Rattle.std.proofs.Common.{◌≡◌, ℕ, ◌+◌, ◌<◌, Bool, false, ◌||◌, List, [], ◌∷◌, refl, ap, sym, ◌∙◌, subst, zero-add, length, filter_map, arith}
use Rattle.std.specs.Prelude.{All, Option, Some, None, option_and_then, option_map, slice_get, slice_index, sum_by, Vec}
use Rattle.std.specs.List.{cons_option, list_any}
use Rattle.std.specs.Option.{option_map_or}
use Rattle.std.specs.declared.alloc.Global.{Global}
use Rattle.std.proofs.lemmas.Grind.{common_steps}
use Rattle.std.proofs.lemmas.List.{length-map}
use Rattle.std.proofs.lemmas.List.Sums.{sum_by-cons}
use Rattle.std.proofs.lemmas.Option.{get_or_from_slice_get, slice_get-map, slice_get_within}
use Rattle.fm_base.proofs.Options.{found_passes}
use Rattle.blif_hierarchy.specs.Components.{AreEdges, targets}
use Rattle.blif_model.specs.Models.{Model, at_model, instances}
use Rattle.blif_model.specs.declared.models.ModelLines.{ModelLines}
use Rattle.blif_model.specs.Grouped.{model_of}
use Rattle.blif_hierarchy.specs.Callees.{AllCallees, callee_of, callees_of, models_at}
use Rattle.blif_hierarchy.specs.Lines.{instance_answer, instance_at}
use Rattle.blif_hierarchy.proofs.FirstLines.{model_instances}

-- ---- lists of what is there

pub any-filter_map : {X Y : Type 0} (p : Y → Bool) (h : X → Option Y) (xs : List X)
    → list_any p (filter_map h xs) ≡ list_any (λ x. found_passes p (h x)) xs
any-filter_map p h [] = refl
any-filter_map p h (x ∷ xs) =
    elim (h x) as (λ o. list_any p (cons_option o (filter_map h xs)) ≡ (found_passes p o || list_any (λ w. found_passes p (h w)) xs)) [
      | None ↦ any-filter_map p h xs
      | Some y ↦ ap (λ b. p y || b) (any-filter_map p h xs)
    ]

pub sum-filter_map : {X Y : Type 0} (f : Y → ℕ) (h : X → Option Y) (xs : List X)
    → sum_by f (filter_map h xs) ≡ sum_by (λ x. option_map_or f (h x) 0) xs
sum-filter_map f h [] = refl
sum-filter_map {X} f h (x ∷ xs) =
    let rest : ℕ = sum_by (λ w. option_map_or f (h w) 0) xs in
    elim (h x) as (λ o. sum_by f (cons_option o (filter_map h xs)) ≡ option_map_or f o 0 + rest) [
      | None ↦ sum-filter_map f h xs ∙ sym (zero-add rest)
      | Some y ↦ sum_by-cons f y (filter_map h xs) ∙ ap (λ n. f y + n) (sum-filter_map f h xs)
    ] ∙ sym (sum_by-cons (λ (w : X). option_map_or f (h w) 0) x xs)

filter_map-filter_map : {X Y Z : Type 0} (g : Y → Option Z) (h : X → Option Y) (xs : List X)
    → filter_map g (filter_map h xs) ≡ filter_map (λ x. option_and_then g (h x)) xs
filter_map-filter_map g h [] = refl
filter_map-filter_map {X} {Y} {Z} g h (x ∷ xs) =
    let rest : List Z = filter_map (λ w. option_and_then g (h w)) xs in
    elim (h x) as (λ o. filter_map g (cons_option o (filter_map h xs)) ≡ cons_option (option_and_then g o) rest) [
      | None ↦ filter_map-filter_map g h xs
      | Some y ↦ ap (cons_option (g y)) (filter_map-filter_map g h xs)
    ]

-- the models that the lines of a model name
pub line_callees : (models : List Model) (m : ModelLines)
    → filter_map (instance_answer (callee_of models)) m.items.now ≡ callees_of models (model_of m)
line_callees models m =
    sym (ap (filter_map (callee_of models)) (model_instances m) ∙ filter_map-filter_map (callee_of models) instance_at m.items.now)

-- for the step of a loop over models
pub ruleset callee_steps = (common_steps, line_callees)

-- ---- the callees of each model

-- some instance of the model is of one that passes
abbrev pub some_callee : List Model → (Model → Bool) → Model → Bool
some_callee models test m = list_any (λ i. at_model models i.name test false) (instances m)

-- some model at these places passes
abbrev pub some_at : List Model → (Model → Bool) → List ℕ → Bool
some_at models test places = list_any (λ k. found_passes test (slice_get models k)) places

module _ (models : List Model) (cs : List (Vec ℕ Global)) (all : AllCallees models models cs) where
  pub callees_long : length cs ≡ length models
  callees_long =
      sym (length-map cs (λ (c : Vec ℕ Global). models_at models c.items)) ∙ ap length all ∙ length-map models (callees_of models)

  pub are_edges : All (λ (c : Vec ℕ Global). All (λ (j : ℕ). j < length models) c.items) cs → AreEdges cs
  are_edges fits x k lt = elim (slice_get cs x) as (λ o. slice_get cs x ≡ o → k < length (option_map_or (λ v. v.items) o [])
      → slice_index (option_map_or (λ v. v.items) o []) k < length cs) [
        | None ↦ λ e within. absurd (omega arith)
        | Some c ↦ λ e within.
            let fit = subst (λ (v : Vec ℕ Global). All (λ (j : ℕ). j < length models) v.items) (get_or_from_slice_get cs x c c e)
            (fits x c (slice_get_within cs x c e)) in
            omega (arith, callees_long, fit k 0 within)
      ] refl lt

  module _ (k : ℕ) (y : Model) (e : slice_get models k ≡ Some y) where
    callees_at : models_at models (targets cs k) ≡ callees_of models y
    callees_at = elim (slice_get cs k) as (λ o. option_map (λ c. models_at models c.items) o ≡ Some (callees_of models y)
        → models_at models (option_map_or (λ v. v.items) o []) ≡ callees_of models y) [ None ↦ λ f. cc | Some c ↦ λ f. cc ]
        (sym (slice_get-map (λ (c : Vec ℕ Global). models_at models c.items) cs k) ∙ ap (λ (ms : List (List Model)). slice_get ms k) all
        ∙ slice_get-map (callees_of models) models k ∙ ap (option_map (callees_of models)) e)

    -- some instance of a model passes where some place of its callees does
    pub any_callee : (test : Model → Bool) → some_callee models test y ≡ some_at models test (targets cs k)
    any_callee test =
        sym (any-filter_map test (callee_of models) (instances y)) ∙ ap (list_any test) (sym callees_at)
        ∙ any-filter_map test (slice_get models) (targets cs k)
