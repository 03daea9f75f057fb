-- A line lies on a way back to its own model where it instances a model of the same component.
use Rattle.std.proofs.Common.{◌≡◌, ℕ, zero, suc, ◌≤◌, Bool, true, false, ◌==◌, inl, inr, List, [], ◌∷◌, refl, ap, sym, ◌∙◌, length, map, get_or, arith}
use Rattle.std.specs.Prelude.{Option, Some, None, bytes_eq, option_and_then, option_map, slice_get, slice_index, Vec}
use Rattle.std.specs.List.{position_or_len}
use Rattle.std.specs.declared.alloc.Global.{Global}
use mathlib.Core.Path.{fun_ext}
use Rattle.std.proofs.lemmas.Bool.{or_cases, or_right}
use Rattle.std.proofs.lemmas.Bool.Decides.{Decides-eqb, same_from_decides}
use Rattle.std.proofs.lemmas.Grind.{same_number_lists}
use Rattle.std.proofs.lemmas.List.{get_or-map, get_or_default, length-map}
use Rattle.std.proofs.lemmas.List.Folds.{Any-from_list_any, find_at, list_any_at}
use Rattle.std.proofs.lemmas.Option.{slice_get-get_or, slice_get-map, slice_get_within}
use Rattle.blif_hierarchy.specs.Components.{AreComponents, AreEdges, Way, target, targets}
use Rattle.circuit.proofs.Passing.{any_at}
use Rattle.fm_base.specs.Firsts.{first_where, given}
use Rattle.fm_base.proofs.Distinct.{same_name, is_same}
use Rattle.net_names.proofs.Times.{names-apart, place, place-at}
use Rattle.blif_text.specs.declared.NetlistFault.{NetlistFault}
use Rattle.blif_text.specs.declared.NetlistKind.TheVariants.{Recursive, TooDeep}
use Rattle.blif_model.specs.LineFault.{at_line}
use Rattle.blif_model.specs.Models.{Model, Instance, at_model, has_nest, instances, model_named, reaches}
use Rattle.blif_model.specs.ModelFault.{recursive, too_deep, two_models}
use Rattle.blif_hierarchy.specs.Callees.{AllCallees}
use Rattle.blif_hierarchy.specs.Numbered.{first_numbered, numbered_line, own_line, ring_line}
use Rattle.blif_hierarchy.specs.Rounds.{one_if}
use Rattle.fm_base.proofs.Options.{found_passes}
use Rattle.blif_hierarchy.proofs.Bindings.{or_given}
use Rattle.blif_hierarchy.proofs.Bounds.{passing, reach_few}
use Rattle.blif_hierarchy.proofs.Called.{any_callee, callees_long, some_callee}
use Rattle.blif_hierarchy.proofs.FirstLines.{first_mapped}
use Rattle.blif_hierarchy.proofs.SecondNames.{model_names, names_apart}

module _ (models : List Model) (cs : List (Vec ℕ Global)) (all : AllCallees models models cs) (edges : AreEdges cs)
    (numbers : List ℕ) (comp : AreComponents cs numbers) (apart : two_models models ≡ None) where
  abbrev number : ℕ → ℕ
  number k = slice_index numbers k

  name_at : (k : ℕ) (y : Model) → slice_get models k ≡ Some y → slice_get (model_names models) k ≡ Some y.name
  name_at k y e = slice_get-map (λ (m : Model). m.name) models k ∙ ap (option_map (λ (m : Model). m.name)) e

  one_place : (i j : ℕ) (m z : Model) → slice_get models i ≡ Some m → slice_get models j ≡ Some z → m.name ≡ z.name → i ≡ j
  one_place i j m z e f same =
      names-apart (model_names models) (names_apart models apart) i j z.name (name_at i m e ∙ ap Some same) (name_at j z f)

  -- the number of the model of a name
  abbrev number_of : Model → ℕ
  number_of y = number (place (model_names models) y.name)

  number_at : (k : ℕ) (y : Model) → slice_get models k ≡ Some y → number_of y ≡ number k
  number_at k y e = ap (slice_index numbers) (place-at (model_names models) k y.name (names_apart models apart) (name_at k y e))

  numbers_are : numbers ≡ map number_of models
  numbers_are =
      let long = callees_long models cs all in
      let size = comp.sized in
      let nothing : Model = record { name = []; line = 0; items = [] } in
      same_number_lists numbers (map number_of models) (omega (arith, length-map models number_of))
      (λ k lt. sym (get_or-map number_of models k nothing 0 (omega arith)
      ∙ number_at k (get_or models k nothing) (slice_get-get_or models k nothing (omega arith))))

  -- an instance leads to a model of no greater number
  some_target : (test : Model → Bool) (k : ℕ) (y : Model) → slice_get models k ≡ Some y → some_callee models test y ≡ true
      → (t : ℕ) × (z : Model) × (slice_get models t ≡ Some z) × (test z ≡ true) × (number t ≤ number k)
  some_target test k y e h =
      let there = sym (any_callee models cs all k y e test) ∙ h in
      let w = Any-from_list_any (λ t. found_passes test (slice_get models t)) (targets cs k) there in
      let z = passing test (slice_get models w.1) w.4 in
      let at = ap (slice_index numbers) (get_or_default (targets cs k) w.0 0 w.1 w.2 ∙ w.3) in
      let long = callees_long models cs all in
      let lt = slice_get_within models k y e in
      let down = comp.down k w.0 (omega arith) w.2 in
      (w.1, z.0, z.1, z.2, omega arith)

  module _ (i : ℕ) (m : Model) (here : slice_get models i ≡ Some m) where
    abbrev back : ℕ → Model → Bool
    back steps = reaches models steps m.name

    own_name : (k : ℕ) (y : Model) → slice_get models k ≡ Some y → bytes_eq y.name m.name ≡ true → number i ≤ number k
    own_name k y e h = let at = ap (slice_index numbers) (one_place k i y m e here (same_name y.name m.name h)) in omega arith

    -- what reaches the model has its number or a greater one
    up : (n k : ℕ) (y : Model) → slice_get models k ≡ Some y → back n y ≡ true → number i ≤ number k
    unfolding reaches
    up zero k y e r = own_name k y e r
    up (suc n) k y e r = elim (or_cases (bytes_eq y.name m.name) (some_callee models (back n) y) r) [
      | inl h ↦ own_name k y e h
      | inr h ↦ (let t = some_target (back n) k y e h in let rest = up n t.0 t.1 t.2 t.3 in let down = t.4 in omega arith)
    ]

    -- a way to the model reaches its name
    way_back : (n k : ℕ) (y : Model) → slice_get models k ≡ Some y → Way cs n k i → back n y ≡ true
    unfolding Way reaches
    way_back zero k y e w =
        let one : Some y ≡ Some m = sym e ∙ ap (slice_get models) w ∙ here in
        let same : y ≡ m = cc in
        ap (λ (z : Model). bytes_eq z.name m.name) same ∙ is_same m.name
    way_back (suc n) k y e w =
        let t : ℕ = target cs k w.0 in
        let long = callees_long models cs all in
        let lt = edges k w.0 w.1 in
        let there = slice_get-get_or models t y (omega arith) in
        let far = ap (found_passes (back n)) there ∙ way_back n t (get_or models t y) there w.2 in
        or_right (bytes_eq y.name m.name) _ (any_callee models cs all k y e (back n)
        ∙ list_any_at (λ j. found_passes (back n) (slice_get models j)) (targets cs k) w.0 0 w.1 far)

    -- an instance has the number of the model around it where it reaches it
    same_test : (q : ℕ) (j : Instance) → slice_get (instances m) q ≡ Some j
        → at_model models j.name (λ y. number_of y == number_of m) false ≡ at_model models j.name (back (length models)) false
    same_test q j at = by_found (model_named models j.name) refl
      where
        by_found : (o : Option Model) → model_named models j.name ≡ o
            → found_passes (λ y. number_of y == number_of m) o ≡ found_passes (back (length models)) o
        by_found None is = refl
        by_found (Some y) is =
            let named : Model → Bool = λ z. bytes_eq z.name j.name in
            let test : Model → Bool = λ z. bytes_eq z.name y.name in
            let k : ℕ = position_or_len named models in
            let there : slice_get models k ≡ Some y = sym (find_at named models) ∙ is in
            let called : some_callee models test m ≡ true =
            any_at (λ (x : Instance). at_model models x.name test false) (instances m) q j at
            (ap (found_passes test) is ∙ is_same y.name) in
            let t = some_target test i m here called in
            let callee = ap (slice_index numbers) (one_place t.0 k t.1 y t.2 there (same_name t.1.name y.name t.3)) in
            let down = t.4 in
            let own = number_at i m here in
            let its = number_at k y there in
            let long = callees_long models cs all in
            let lt_i = slice_get_within models i m here in
            let lt_k = slice_get_within models k y there in
            same_from_decides (number_of y == number_of m) (back (length models) y) (Decides-eqb (number_of y) (number_of m)) (
              (λ r. let above = up (length models) k y there r in omega arith),
              (λ e. let way = comp.ring k i (omega arith) (omega arith) (omega arith) in
                  reach_few models m.name way.0 y (way_back way.0 k y there way.1)),
            )

  -- the first line that instances a model of its own number is the first on a way back
  pub ring_lines : (f : Model → ℕ) × (numbers ≡ map f models)
      × (option_map (λ n. at_line n Recursive) (ring_line models f) ≡ recursive models)
  unfolding recursive
  ring_lines =
      let fault : ℕ → NetlistFault = λ n. at_line n Recursive in
      let own : Model → Model → Bool = λ m y. number_of y == number_of m in
      let answer : Model → Instance → Option NetlistFault =
      λ m j. given (at_model models j.name (reaches models (length models) m.name) false) (fault j.line) in (
        number_of,
        numbers_are,
        first_mapped fault (own_line models number_of) (λ m. first_where (answer m) (instances m)) models
            (λ i m here. first_mapped fault (numbered_line models number_of (number_of m)) (answer m) (instances m)
            (λ q j at. or_given Recursive None (at_model models j.name (own m) false) j.line
            ∙ ap (λ b. given b (fault j.line)) (same_test i m here q j at))),
      )

-- ---- nests

one_is : (b : Bool) → (one_if b == 1) ≡ b
one_is true = refl
one_is false = refl

pub deep_lines : (models : List Model)
    → option_map (λ n. at_line n TooDeep)
    (option_and_then (first_numbered models (λ m. one_if (has_nest models 32 m)) 1) (slice_get models 0))
    ≡ too_deep models
unfolding too_deep instances first_where
deep_lines [] = refl
deep_lines (main ∷ others) =
    let models : List Model = main ∷ others in
    let answer : (Model → Bool) → Instance → Option NetlistFault =
    λ test i. given (at_model models i.name test false) (at_line i.line TooDeep) in
    first_mapped (λ n. at_line n TooDeep) (numbered_line models (λ m. one_if (has_nest models 32 m)) 1) (answer (has_nest models 32))
    (instances main)
    (λ q i at. or_given TooDeep None (at_model models i.name (λ m. one_if (has_nest models 32 m) == 1) false) i.line
    ∙ ap (λ (test : Model → Bool). answer test i) (fun_ext (λ (m : Model). one_is (has_nest models 32 m))))
