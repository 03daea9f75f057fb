-- The lines of models that instance a model of a number.
use Rattle.std.proofs.Common.{◌≡◌, ℕ, ◌+◌, ◌<◌, ◌≤◌, List, ap, sym, ◌∙◌, length, drop, get_or, map, slice_index, arith}
use Rattle.std.specs.Prelude.{Option, None}
use Rattle.std.specs.Option.{option_or}
use Rattle.std.proofs.lemmas.List.{get_or-map, length-map}
use Rattle.fm_base.specs.Firsts.{first_where}
use Rattle.blif_model.specs.Grouped.{model_of, models_seen}
use Rattle.blif_model.specs.Models.{Model}
use Rattle.blif_model.specs.declared.models.ModelLines.{ModelLines}
use Rattle.blif_hierarchy.specs.Lines.{instance_answer, instance_at}
use Rattle.blif_hierarchy.specs.Numbered.{first_numbered, numbered_line, own_line}
use Rattle.blif_hierarchy.proofs.FirstLines.{first-filter_map, first_end, first_step, model_instances}

module _ (models : List Model) (f : Model → ℕ) where
  pub model_line : (number : ℕ) (m : ModelLines)
      → first_where (instance_answer (numbered_line models f number)) m.items.now ≡ first_numbered models f number (model_of m)
  model_line number m =
      sym (ap (first_where (numbered_line models f number)) (model_instances m)
      ∙ first-filter_map (numbered_line models f number) instance_at m.items.now)

  module _ (lines : List ModelLines) (seen : models_seen lines ≡ models) where
    long : length lines ≡ length models
    long = sym (length-map lines model_of) ∙ ap length seen

    pub ring_end : (i : ℕ) → length lines ≤ i → first_where (own_line models f) (drop i models) ≡ None
    ring_end i h = let size = long in first_end (own_line models f) models i (omega arith)

    pub ring_step : (numbers : List ℕ) → numbers ≡ map f models → (i own : ℕ) (x : ModelLines) (found : Option ℕ)
        → i < length lines → x ≡ get_or lines i x → own ≡ slice_index numbers i
        → found ≡ first_where (instance_answer (numbered_line models f own)) x.items.now
        → first_where (own_line models f) (drop i models) ≡ option_or found (first_where (own_line models f) (drop (i + 1) models))
    ring_step numbers e i own x found h is at same =
        let size = long in
        let lt : i < length models = omega arith in
        let here : model_of x ≡ get_or models i (model_of x) =
        ap model_of is ∙ sym (get_or-map model_of lines i x (model_of x) h) ∙ ap (λ (ms : List Model). get_or ms i (model_of x)) seen in
        let number : own ≡ f (model_of x) =
        at ∙ ap (λ (ns : List ℕ). slice_index ns i) e ∙ get_or-map f models i (model_of x) 0 lt ∙ ap f (sym here) in
        first_step (own_line models f) models i (model_of x) found lt here
        (same ∙ model_line own x ∙ ap (λ n. first_numbered models f n (model_of x)) number)
