-- Models whose name stands twice.
use Rattle.std.proofs.Common.{◌≡◌, ℕ, ◌+◌, ◌<◌, ◌≤◌, Bool, false, List, [], ◌∷◌, ◌++◌, refl, ap, ap₂, sym, ◌∙◌, append_assoc, length, take, drop, get_or, map}
use Rattle.std.specs.Prelude.{Option, None, bytes_eq}
use Rattle.std.specs.List.{list_any}
use Rattle.std.specs.Option.{option_or}
use Rattle.std.proofs.lemmas.List.{append-nil, at_drop_all, at_drop_more, map-append, map_more}
use Rattle.fm_base.specs.Firsts.{first_after, given}
use Rattle.fm_base.specs.Names.{Name, has_repeat, is_one_of}
use Rattle.fm_base.proofs.Distinct.{bytes_eq-sym}
use Rattle.fm_base.proofs.Tests.{both_false}
use Rattle.blif_text.specs.declared.NetlistFault.{NetlistFault}
use Rattle.blif_text.specs.declared.NetlistKind.TheVariants.{TwoModels}
use Rattle.net_names.proofs.Answers.{none_given}
use Rattle.blif_model.specs.LineFault.{at_line}
use Rattle.blif_model.specs.ModelFault.{two_models}
use Rattle.blif_model.specs.Models.{Model}
use Rattle.blif_model.specs.declared.models.ModelLines.{ModelLines}
use Rattle.blif_model.specs.Grouped.{model_of, models_seen}
use Rattle.blif_hierarchy.specs.Ports.{once}
use Rattle.blif_hierarchy.proofs.Bindings.{once_passes, repeat-snoc}

abbrev pub model_names : List Model → List Name
model_names models = map (λ m. m.name) models

-- an earlier model has the name
abbrev named_before : List Model → Name → Bool
named_before before name = list_any (λ earlier. bytes_eq earlier.name name) before

-- the fault of a model behind these
abbrev pub second_fault : List Model → Model → Option NetlistFault
second_fault before m = given (named_before before m.name) (at_line m.line TwoModels)

is_named : (models : List Model) (q : Name) → named_before models q ≡ is_one_of (model_names models) q
is_named [] q = refl
is_named (m ∷ models) q = rw (bytes_eq-sym m.name q, is_named models q) refl

-- the first model at one of these places or behind them that has the name of an earlier one
abbrev pub second_from : List ModelLines → ℕ → Option NetlistFault
second_from lines i = first_after second_fault (models_seen (take i lines)) (models_seen (drop i lines))

-- the names before a place
abbrev pub names_to : List ModelLines → ℕ → List Name
names_to lines i = once (model_names (models_seen (take i lines)))

pub second_end : (lines : List ModelLines) (i : ℕ) → length lines ≤ i → second_from lines i ≡ None
unfolding first_after
second_end lines i h =
    at_drop_all (λ (ls : List ModelLines). first_after second_fault (models_seen (take i lines)) (models_seen ls)) lines i h

-- one model more
module _ (lines : List ModelLines) (i : ℕ) (x : ModelLines) (h : i < length lines) (is : x ≡ get_or lines i x) where
  abbrev before : List Model
  before = models_seen (take i lines)

  one_more : models_seen (take (i + 1) lines) ≡ before ++ model_of x ∷ []
  one_more = map_more model_of lines i x h ∙ ap (λ (y : ModelLines). before ++ model_of y ∷ []) (sym is)

  pub second_step : (taken : List Name) (found : Bool) → taken ≡ names_to lines i → is_one_of taken x.name.now ≡ found
      → option_or (given found (at_line x.line TwoModels)) (second_from lines (i + 1)) ≡ second_from lines i
  unfolding first_after
  second_step taken found e f =
      let behind : List Model = models_seen (drop (i + 1) lines) in
      let here : named_before before x.name.now ≡ found =
      is_named before x.name.now ∙ sym (once_passes (bytes_eq x.name.now) (model_names before))
      ∙ ap (λ (names : List Name). is_one_of names x.name.now) (sym e) ∙ f in
      sym (at_drop_more (λ (ls : List ModelLines). first_after second_fault before (models_seen ls)) lines i x h
      ∙ ap (λ (y : ModelLines). first_after second_fault before (model_of y ∷ behind)) (sym is)
      ∙ ap₂ (λ (b : Bool) (ms : List Model). option_or (given b (at_line x.line TwoModels)) (first_after second_fault ms behind))
      here (sym one_more))

-- models of different names
names_differ : (before models : List Model) → first_after second_fault before models ≡ None → has_repeat (model_names before) ≡ false
    → has_repeat (model_names (before ++ models)) ≡ false
unfolding first_after
names_differ before [] e apart = ap (λ (ms : List Model). has_repeat (model_names ms)) (append-nil before) ∙ apart
names_differ before (m ∷ models) e apart =
    let parts = none_given (named_before before m.name) (at_line m.line TwoModels) _ e in
    let more : has_repeat (model_names (before ++ m ∷ [])) ≡ false =
    ap has_repeat (map-append (λ (k : Model). k.name) before (m ∷ [])) ∙ repeat-snoc (model_names before) m.name
    ∙ both_false (has_repeat (model_names before)) (is_one_of (model_names before) m.name) apart (sym (is_named before m.name) ∙ parts.0) in
    ap (λ (ms : List Model). has_repeat (model_names ms)) (sym (append_assoc before (m ∷ []) models))
    ∙ names_differ (before ++ m ∷ []) models parts.1 more

pub names_apart : (models : List Model) → two_models models ≡ None → has_repeat (model_names models) ≡ false
unfolding two_models
names_apart models e = names_differ [] models e refl
