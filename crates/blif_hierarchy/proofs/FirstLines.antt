-- The first answer: in a loop, of images and of what is there; and the lines and models that give it.
use Rattle.std.proofs.Common.{◌≡◌, ℕ, suc, ◌+◌, ◌<◌, ◌≤◌, List, [], ◌∷◌, refl, ap, ap₂, sym, ◌∙◌, length, drop, get_or, map, filter_map}
use Rattle.std.specs.Prelude.{Option, Some, None, option_and_then, option_map, slice_get}
use Rattle.std.specs.List.{cons_option}
use Rattle.std.specs.Option.{option_or}
use Rattle.std.proofs.lemmas.Grind.{common_steps}
use Rattle.std.proofs.lemmas.List.{at_drop_more, at_drop_all}
use Rattle.std.proofs.lemmas.List.Elements.{filter_map-append}
use Rattle.fm_base.specs.Firsts.{first_where}
use Rattle.fm_base.proofs.Options.{or_mapped}
use Rattle.blif_model.specs.LineFault.{Said}
use Rattle.blif_model.specs.Models.{Model, instances, items_of}
use Rattle.blif_model.specs.ModelSteps.{instance_from}
use Rattle.blif_model.specs.declared.models.ModelLines.{ModelLines}
use Rattle.blif_model.specs.Grouped.{model_of, models_seen}
use Rattle.blif_hierarchy.specs.Lines.{instance_at}

module _ {X Y : Type 0} (answer : X → Option Y) where
  -- the answer of an item comes before those of the items behind it
  pub first_step : (xs : List X) (i : ℕ) (x : X) (found : Option Y) → i < length xs → x ≡ get_or xs i x → found ≡ answer x
      → first_where answer (drop i xs) ≡ option_or found (first_where answer (drop (i + 1) xs))
  unfolding first_where
  first_step xs i x found h is e =
      at_drop_more (first_where answer) xs i x h ∙ ap (λ o. option_or o (first_where answer (drop (i + 1) xs))) (ap answer (sym is) ∙ sym e)

  pub first_end : (xs : List X) (i : ℕ) → length xs ≤ i → first_where answer (drop i xs) ≡ None
  unfolding first_where
  first_end xs i h = at_drop_all (first_where answer) xs i h

  pub first-filter_map : {W : Type 0} (h : W → Option X) (ws : List W)
      → first_where answer (filter_map h ws) ≡ first_where (λ w. option_and_then answer (h w)) ws
  unfolding first_where
  first-filter_map h [] = refl
  first-filter_map h (w ∷ ws) =
      let rest : Option Y = first_where (λ v. option_and_then answer (h v)) ws in
      elim (h w) as (λ o. first_where answer (cons_option o (filter_map h ws)) ≡ option_or (option_and_then answer o) rest) [
        | None ↦ first-filter_map h ws
        | Some x ↦ ap (option_or (answer x)) (first-filter_map h ws)
      ]

-- the image of the first answer, where each item's other answer is the image of its answer
pub first_mapped : {X Y Z : Type 0} (f : Y → Z) (g : X → Option Y) (h : X → Option Z) (xs : List X)
    → ((k : ℕ) (x : X) → slice_get xs k ≡ Some x → option_map f (g x) ≡ h x) → option_map f (first_where g xs) ≡ first_where h xs
unfolding first_where
first_mapped f g h [] each = refl
first_mapped f g h (x ∷ xs) each =
    or_mapped f (g x) (first_where g xs) ∙ ap₂ option_or (each 0 x refl) (first_mapped f g h xs (λ k y e. each (suc k) y e))

-- for the steps of loops over lines
pub ruleset line_steps = (common_steps, filter_map-append)

-- the instances of a model are those of its lines
line_instances : (lines : List Said)
    → filter_map (λ item. instance_from item.line item.says) (items_of lines) ≡ filter_map instance_at lines
unfolding items_of
line_instances [] = refl
line_instances (line ∷ lines) = ap (cons_option (instance_at line)) (line_instances lines)

pub model_instances : (m : ModelLines) → instances (model_of m) ≡ filter_map instance_at m.items.now
unfolding instances
model_instances m = line_instances m.items.now

-- for the steps of loops over models
pub ruleset model_steps = (common_steps, model_instances)

-- what a function gives of models is what it gives of their lines
pub over_lines : {Y : Type 0} (f : Model → Y) (lines : List ModelLines) (models : List Model) → models_seen lines ≡ models
    → map (λ (l : ModelLines). f (model_of l)) lines ≡ map f models
over_lines {Y} f lines models e = fused lines ∙ ap (map f) e
  where
    fused : (ls : List ModelLines) → map (λ (l : ModelLines). f (model_of l)) ls ≡ map f (models_seen ls)
    fused [] = refl
    fused (l ∷ ls) = ap (λ (more : List Y). f (model_of l) ∷ more) (fused ls)
