-- The depth of 32 suffices.
use Rattle.std.proofs.Common.{◌≡◌, ℕ, zero, suc, ◌+◌, Bool, true, false, List, [], ◌∷◌, ◌++◌, refl, ap, sym, ◌∙◌, add-zero, arith}
use Rattle.std.specs.Prelude.{Option, Some, None, filter_map, sum_by}
use Rattle.std.specs.List.{list_any}
use Rattle.std.specs.Option.{option_map_or}
use Rattle.std.proofs.lemmas.List.Sums.{sum_by-cons}
use Rattle.blif_text.specs.declared.NetlistFault.{NetlistFault}
use Rattle.blif_text.specs.declared.NetlistKind.TheVariants.{TooDeep}
use Rattle.blif_model.specs.LineFault.{at_line}
use Rattle.blif_model.specs.Statement.{Statement, instance}
use Rattle.fm_base.specs.Firsts.{first_where, given}
use Rattle.fm_base.specs.Names.{Name}
use Rattle.fm_base.proofs.Tests.{both_false, or_false}
use Rattle.net_names.proofs.Answers.{none_given}
use Rattle.blif_model.specs.Models.{Model, Item, Instance, at_model, model_named, instances, has_nest, main_of, sum_over_instances}
use Rattle.blif_model.specs.ModelSteps.{instance_from}
use Rattle.blif_model.specs.Walk.{Scope, Step, top, enter, steps_from, walk}
use Rattle.blif_model.specs.WalkSteps.{scope_of, steps_of, next}
use Rattle.blif_model.specs.ModelFault.{too_deep}

-- what is asked of a `.subckt` line by its model's name
abbrev any_named : (Name → Bool) → List Item → Bool
any_named deep items = list_any (λ (i : Instance). deep i.name) (filter_map (λ (item : Item). instance_from item.line item.says) items)

module _ (f g : Scope → Name → List Step) (deep : Name → Bool)
    (same : (scope : Scope) (name : Name) → deep name ≡ false → f scope name ≡ g scope name) where
  same_step : (scope : Scope) (j line : ℕ) (says : Statement) (rows : List (List Name)) (items : List Item)
      → any_named deep (record { line = line; says = says; rows = rows } ∷ items) ≡ false
      → (steps_of f scope j (record { line = line; says = says; rows = rows })
      ≡ steps_of g scope j (record { line = line; says = says; rows = rows }))
      × (any_named deep items ≡ false)
  same_step scope j line (instance name bindings) rows items e =
      let parts = or_false (deep name) (any_named deep items) e in
      (rw (same (scope_of scope j bindings) name parts.0) refl, parts.1)
  same_step scope j line says rows items e = (refl, e)

  same_steps : (scope : Scope) (j : ℕ) (items : List Item) → any_named deep items ≡ false
      → steps_from f scope j items ≡ steps_from g scope j items
  unfolding steps_from
  same_steps scope j [] e = refl
  same_steps scope j (item ∷ items) e =
      let here = same_step scope j item.line item.says item.rows items e in
      ap (λ (first : List Step). first ++ steps_from f scope (next j item.says) items) here.0
      ∙ ap (λ (more : List Step). steps_of g scope j item ++ more) (same_steps scope (next j item.says) items here.1)

-- the numbers of two functions agree on the `.subckt` lines that don't nest
same_sums : (f g : Instance → ℕ) (deep : Instance → Bool) → ((i : Instance) → deep i ≡ false → f i ≡ g i) → (xs : List Instance)
    → list_any deep xs ≡ false → sum_by f xs ≡ sum_by g xs
same_sums f g deep same [] e = refl
same_sums f g deep same (i ∷ xs) e =
    let parts = or_false (deep i) (list_any deep xs) e in
    sum_by-cons f i xs ∙ rw (same i parts.0, same_sums f g deep same xs parts.1) (sym (sum_by-cons g i xs))

no_sum : (xs : List Instance) → sum_by (λ i. 0) xs ≡ 0
no_sum [] = refl
no_sum (i ∷ xs) = sum_by-cons (λ i. 0) i xs ∙ rw (no_sum xs) refl

any_less : (p q : Instance → Bool) → ((i : Instance) → p i ≡ false → q i ≡ false) → (xs : List Instance) → list_any p xs ≡ false
    → list_any q xs ≡ false
any_less p q less [] e = refl
any_less p q less (i ∷ xs) e =
    let parts = or_false (p i) (list_any p xs) e in
    both_false (q i) (list_any q xs) (less i parts.0) (any_less p q less xs parts.1)

-- where a search for the first finds none, none passes
none_passes : (p : Instance → Bool) (v : Instance → NetlistFault) (xs : List Instance) → first_where (λ i. given (p i) (v i)) xs ≡ None
    → list_any p xs ≡ false
unfolding first_where
none_passes p v [] e = refl
none_passes p v (i ∷ xs) e = let parts = none_given (p i) (v i) _ e in both_false (p i) (list_any p xs) parts.0 (none_passes p v xs parts.1)

-- with no model that nests, no model is there
none_there : {X : Type 0} (found : Option Model) (f : Model → X) (default : X) → option_map_or (λ m. true) found false ≡ false
    → default ≡ option_map_or f found default
none_there None f default e = refl
none_there (Some m) f default e = cc

-- what agrees at each model that doesn't nest agrees at the one that was found
same_at : {X : Type 0} (found : Option Model) (deep : Model → Bool) (f g : Model → X) (default : X)
    → ((m : Model) → deep m ≡ false → f m ≡ g m)
    → option_map_or deep found false ≡ false → option_map_or f found default ≡ option_map_or g found default
same_at None deep f g default same e = refl
same_at (Some m) deep f g default same e = same m e

module _ (models : List Model) where
  -- the model of this name nests so deep
  abbrev nests : ℕ → Name → Bool
  nests depth name = at_model models name (has_nest models depth) false

  -- where nothing nests as deep as the walk may go, it may as well go one deeper
  pub enter-enough : (depth : ℕ) (scope : Scope) (name : Name) → nests depth name ≡ false
      → enter models depth scope name ≡ enter models (suc depth) scope name
  unfolding enter has_nest instances
  enter-enough zero scope name e = none_there (model_named models name) (λ m. steps_from (λ inner other. []) scope 0 m.items) [] e
  enter-enough (suc depth) scope name e =
      same_at (model_named models name) (has_nest models (suc depth)) (λ m. steps_from (enter models depth) scope 0 m.items)
      (λ m. steps_from (enter models (suc depth)) scope 0 m.items) []
      (λ m h. same_steps (enter models depth) (enter models (suc depth)) (nests depth) (enter-enough depth) scope 0 m.items h) e

  -- the same of a sum over the instances
  module _ (own : Model → ℕ) where
    -- the number of an instance of this name, which has so many more in it, one in the other
    abbrev pub number_of : ℕ → Name → ℕ
    number_of zero name = 0
    number_of (suc depth) name = at_model models name (sum_over_instances own models depth) 0

    pub sum_by_numbers : (depth : ℕ) (m : Model)
        → sum_over_instances own models depth m ≡ own m + sum_by (λ i. number_of depth i.name) (instances m)
    unfolding sum_over_instances
    sum_by_numbers zero m = rw (no_sum (instances m)) (sym (add-zero (own m)))
    sum_by_numbers (suc depth) m = refl

    same_totals : (depth : ℕ) → ((name : Name) → nests depth name ≡ false → number_of depth name ≡ number_of (suc depth) name)
        → (m : Model) → has_nest models (suc depth) m ≡ false
        → sum_over_instances own models depth m ≡ sum_over_instances own models (suc depth) m
    unfolding has_nest
    same_totals depth same m e =
        sum_by_numbers depth m
        ∙ ap (λ n. own m + n)
        (same_sums (λ i. number_of depth i.name) (λ i. number_of (suc depth) i.name) (λ i. nests depth i.name) (λ i. same i.name)
        (instances m) e)
        ∙ sym (sum_by_numbers (suc depth) m)

    same_numbers : (depth : ℕ) (name : Name) → nests depth name ≡ false → number_of depth name ≡ number_of (suc depth) name
    unfolding has_nest
    same_numbers zero name e = none_there (model_named models name) (sum_over_instances own models 0) 0 e
    same_numbers (suc depth) name e =
        same_at (model_named models name) (has_nest models (suc depth)) (sum_over_instances own models depth)
        (sum_over_instances own models (suc depth)) 0 (same_totals depth (same_numbers depth)) e

    pub total-enough : (depth : ℕ) (m : Model) → has_nest models (suc depth) m ≡ false
        → sum_over_instances own models depth m ≡ sum_over_instances own models (suc depth) m
    total-enough depth m e = same_totals depth (same_numbers depth) m e

  less_at : (depth : ℕ) (name : Name) → ((m : Model) → has_nest models depth m ≡ false → has_nest models (suc depth) m ≡ false)
      → nests depth name ≡ false → nests (suc depth) name ≡ false
  less_at depth name less e =
      let now = has_nest models depth in
      sym (same_at (model_named models name) now now (has_nest models (suc depth)) false (λ m h. h ∙ sym (less m h)) e) ∙ e

  -- no nest so deep, so none that is deeper
  pub nest-less : (depth : ℕ) (m : Model) → has_nest models depth m ≡ false → has_nest models (suc depth) m ≡ false
  unfolding has_nest
  nest-less zero m e = cc
  nest-less (suc depth) m e =
      any_less (λ i. nests depth i.name) (λ i. nests (suc depth) i.name) (λ i. less_at depth i.name (nest-less depth)) (instances m) e

  enter-more : (more depth : ℕ) (scope : Scope) (name : Name) → nests depth name ≡ false
      → enter models depth scope name ≡ enter models (depth + more) scope name
  enter-more zero depth scope name e = ap (λ n. enter models n scope name) (sym (add-zero depth))
  enter-more (suc more) depth scope name e =
      let same : suc depth + more ≡ depth + suc more = omega arith in
      enter-enough depth scope name e ∙ enter-more more (suc depth) scope name (less_at depth name (nest-less depth) e)
      ∙ ap (λ n. enter models n scope name) same

  -- where the main model is not too deep, any greater depth gives the same walk
  pub walk-enough : (more : ℕ) → too_deep models ≡ None → walk models ≡ steps_from (enter models (32 + more)) top 0 (main_of models).items
  unfolding walk too_deep instances
  walk-enough more e =
      same_steps (enter models 32) (enter models (32 + more)) (nests 32) (enter-more more 32) top 0 (main_of models).items
      (none_passes (λ i. nests 32 i.name) (λ i. at_line i.line TooDeep) (instances (main_of models)) e)
