-- The lines of a flattened model, with names.
use Rattle.std.proofs.Common.{◌≡◌, ℕ, ◌+◌, ◌<◌, ◌≤◌, List, [], ◌∷◌, ◌++◌, Bool, true, false, cond, not, ◌||◌, refl, sym, ap, ◌∙◌, length, get_or, drop, take, map, arith}
use Rattle.std.specs.Prelude.{filter, flat_map, Option, slice_index_or}
use Rattle.std.specs.Option.{option_or}
use Rattle.std.proofs.lemmas.Grind.{flat_map-append}
use Rattle.std.proofs.lemmas.List.Elements.{All-head, All-tail}
use Rattle.std.proofs.lemmas.List.{append-nil, drop_all, drop_more, get_or-map, length-map, take_all, take_more}
use Rattle.fm_base.specs.Names.{Name, has_repeat}
use Rattle.fm_base.specs.Firsts.{first_after, given}
use Rattle.fm_base.proofs.Firsts.{first_after-append}
use Rattle.blif_model.specs.Walk.{Step}
use Rattle.blif_flatten.specs.declared.flat.FlatModel.{FlatModel}
use Rattle.blif_flatten.specs.declared.flat.NumberedStep.{NumberedStep}
use Rattle.blif_flatten.specs.declared.flat.NameId.{NameId}
use Rattle.blif_flatten.specs.Flat.{all_names, AreBelow, name_at, step_by}
use Rattle.blif_flatten.specs.Flattened.{flat_steps}
use Rattle.blif_flatten.proofs.Marking.{names_apart, step_within}
use Rattle.blif_reader.specs.Passes.{unmarked}
use Rattle.blif_reader.specs.Steps.{IsStep}

module _ (f : FlatModel) (i : ℕ) where
  pub step_is : (s : NumberedStep) → i < length f.steps.items → s ≡ get_or f.steps.items i s → IsStep f i s
  step_is s lt is =
      let x : Step = step_by (name_at f.names) s in
      let size = length-map f.steps.items (step_by (name_at f.names)) in
      let here : get_or (flat_steps f) i x ≡ x = get_or-map (step_by (name_at f.names)) f.steps.items i s x lt ∙ ap (step_by (name_at f.names)) (sym is) in
      record {
        within = step_within f.names f.steps.items i s f.is_flat lt is;
        done = take_more (flat_steps f) i x (omega arith) ∙ ap (λ (y : Step). take i (flat_steps f) ++ y ∷ []) here;
        left = drop_more (flat_steps f) i x (omega arith) ∙ ap (λ (y : Step). y ∷ drop (i + 1) (flat_steps f)) here;
      }

  -- behind the last line
  module _ (h : length f.steps.items ≤ i) where
    pub none_left : drop i (flat_steps f) ≡ []
    none_left = let size = length-map f.steps.items (step_by (name_at f.names)) in drop_all i (flat_steps f) (omega arith)

    pub all_done : take i (flat_steps f) ≡ flat_steps f
    all_done = let size = length-map f.steps.items (step_by (name_at f.names)) in take_all i (flat_steps f) (omega arith)

-- ---- values by numbers

pub apart : (f : FlatModel) → has_repeat f.names ≡ false
apart f = rw f.is_flat.first (names_apart (flat_steps f))

-- the value of a number is that of its name
pub value_at : {Y : Type 0} (f : FlatModel) (of : Name → Y) (ys : List Y) (d : Y) (id : NameId) → ys ≡ map of (all_names (flat_steps f)) → id.0 < length f.names → slice_index_or ys id.0 d ≡ of (name_at f.names id)
value_at {Y} f of ys d id are lt = ap (λ (zs : List Y). slice_index_or zs id.0 d) (are ∙ ap (map of) (sym f.is_flat.first)) ∙ get_or-map of f.names id.0 [] d lt

-- numbers that aren't marked are names that fail the test
pub unmarked_names : (f : FlatModel) (test : Name → Bool) (marks : List Bool) → marks ≡ map test (all_names (flat_steps f)) → (ids : List NameId) → AreBelow (length f.names) ids
    → map (name_at f.names) (unmarked marks ids) ≡ filter (λ name. not (test name)) (map (name_at f.names) ids)
unmarked_names f test marks are [] below = refl
unmarked_names f test marks are (id ∷ ids) below =
    let rest = unmarked_names f test marks are ids (All-tail (λ (i : NameId). i.0 < length f.names) id ids below) in
    rw (value_at f test marks false id are (All-head (λ (i : NameId). i.0 < length f.names) id ids below)) (by_cases (test (name_at f.names id)) _ _ rest)
  where
    by_cases : (b : Bool) (more : List NameId) (texts : List Name) → map (name_at f.names) more ≡ texts
        → map (name_at f.names) (cond (not b) (id ∷ more) more) ≡ cond (not b) (name_at f.names id ∷ texts) texts
    by_cases true more texts e = e
    by_cases false more texts e = ap (λ (ts : List Name). name_at f.names id ∷ ts) e

-- ---- a pass that looks for the first answer, where an item's answer depends on those before it

pub given_or : {X : Type 0} (a b : Bool) (x : X) → option_or (given a x) (given b x) ≡ given (a || b) x
given_or true b x = refl
given_or false b x = refl

-- what is found at a line goes before what is found behind it
pub pass_line : {Y : Type 0} (answer : List Step → Step → Option Y) {f : FlatModel} {i : ℕ} {s : NumberedStep} {all : Option Y} → IsStep f i s
    → first_after answer (take i (flat_steps f)) (drop i (flat_steps f)) ≡ all
    → option_or (answer (take i (flat_steps f)) (step_by (name_at f.names) s)) (first_after answer (take (i + 1) (flat_steps f)) (drop (i + 1) (flat_steps f))) ≡ all
unfolding first_after
pass_line answer {f} {i} {s} at inv =
    ap (λ (done : List Step). option_or (answer (take i (flat_steps f)) (step_by (name_at f.names) s)) (first_after answer done (drop (i + 1) (flat_steps f)))) at.done
    ∙ sym (ap (first_after answer (take i (flat_steps f))) at.left) ∙ inv

-- what the lines up to this one give
pub given_so_far : {X : Type 0} (g : Step → List X) {f : FlatModel} {i : ℕ} {s : NumberedStep} → IsStep f i s
    → flat_map g (take (i + 1) (flat_steps f)) ≡ flat_map g (take i (flat_steps f)) ++ g (step_by (name_at f.names) s)
given_so_far {X} g {f} {i} {s} at =
    ap (flat_map g) at.done ∙ flat_map-append g (take i (flat_steps f)) (step_by (name_at f.names) s ∷ [])
    ∙ ap (λ (xs : List X). flat_map g (take i (flat_steps f)) ++ xs) (append-nil (g (step_by (name_at f.names) s)))

-- the same where each line gives several items
pub pass_step : {X Y : Type 0} (answer : List X → X → Option Y) (g : Step → List X) {f : FlatModel} {i : ℕ} {s : NumberedStep} {all : Option Y} → IsStep f i s
    → first_after answer (flat_map g (take i (flat_steps f))) (flat_map g (drop i (flat_steps f))) ≡ all
    → option_or (first_after answer (flat_map g (take i (flat_steps f))) (g (step_by (name_at f.names) s)))
    (first_after answer (flat_map g (take (i + 1) (flat_steps f))) (flat_map g (drop (i + 1) (flat_steps f)))) ≡ all
pass_step {X} {Y} answer g {f} {i} {s} at inv =
    let done : List X = flat_map g (take i (flat_steps f)) in
    let rest : List X = flat_map g (drop (i + 1) (flat_steps f)) in
    rw (given_so_far g at) (sym (first_after-append answer done (g (step_by (name_at f.names) s)) rest))
    ∙ sym (ap (λ (ss : List Step). first_after answer done (flat_map g ss)) at.left) ∙ inv
