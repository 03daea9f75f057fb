-- The cells that are counted model by model are those of the tables of the walk.
use Rattle.std.proofs.Common.{◌≡◌, ℕ, zero-add, zero, suc, ◌+◌, ◌*◌, max, List, [], ◌∷◌, ◌++◌, refl, sym, ◌∙◌, length, arith}
use Rattle.std.specs.Prelude.{Option, Some, None, map, filter_map, sum_by}
use Rattle.std.specs.Option.{option_map_or}
use Rattle.std.proofs.lemmas.List.{length-map}
use Rattle.std.proofs.lemmas.List.Sums.{sum_by-append, sum_by-cons}
use Rattle.blif_model.specs.Statement.{Statement, table, instance}
use Rattle.blif_model.specs.Models.{Item, Instance, Model, model_named, main_of, instances, sum_over_instances, cell_count}
use Rattle.blif_model.specs.ModelSteps.{instance_from, cells_from}
use Rattle.blif_model.specs.Walk.{Scope, top, inside, Act, flat_table, Step, acts_of, net_of, steps_from, enter, walk}
use Rattle.blif_model.specs.WalkSteps.{scope_of, inner_steps, next}
use Rattle.fm_base.specs.Names.{Name}
use Rattle.blif_model.proofs.Depth.{number_of, sum_by_numbers}

-- the cells of a step
abbrev pub act_cells : Act → ℕ
act_cells (flat_table ins out rows) = max 1 (length rows) * max 1 (length ins)
act_cells _ = 0

-- the cells of a walk
abbrev pub walk_cells : List Step → ℕ
walk_cells steps = sum_by (λ s. act_cells s.act) steps

-- a number for the model of each `.subckt` line, summed
abbrev pub named_sum : (Name → ℕ) → List Item → ℕ
named_sum g items = sum_by (λ (i : Instance). g i.name) (filter_map (λ (item : Item). instance_from item.line item.says) items)

abbrev own_sum : List Item → ℕ
own_sum items = sum_by (λ (item : Item). cells_from item.rows item.says) items

-- the number of the model that a line instances
abbrev pub named_at : (Name → ℕ) → Statement → ℕ
named_at g (instance name bindings) = g name
named_at g _ = 0

pub named_more : (g : Name → ℕ) (line : ℕ) (says : Statement) (rows : List (List Name)) (items : List Item)
    → named_sum g (record { line = line; says = says; rows = rows } ∷ items) ≡ named_at g says + named_sum g items
named_more g line (instance name bindings) rows items =
    sum_by-cons (λ (i : Instance). g i.name) (record { line = line; name = name; bindings = bindings })
    (filter_map (λ (item : Item). instance_from item.line item.says) items)
named_more g line says rows items = sym (zero-add (named_sum g items))

-- the cells of a line's own step, and of its instance
act_of_line : (scope : Scope) (line : ℕ) (says : Statement) (rows : List (List Name))
    → walk_cells (map (λ act. record { line = line; act = act }) (acts_of scope says rows)) ≡ cells_from rows says
act_of_line scope line (table ins out) rows = rw (length-map ins (net_of scope)) (zero-add (max 1 (length rows) * max 1 (length ins)))
act_of_line top line says rows = refl
act_of_line (inside path bound) line says rows = refl

inner_of_line : (f : Scope → Name → List Step) (g : Name → ℕ) → ((scope : Scope) (name : Name) → walk_cells (f scope name) ≡ g name)
    → (scope : Scope) (j : ℕ) (says : Statement) → walk_cells (inner_steps f scope j says) ≡ named_at g says
inner_of_line f g same scope j (instance name bindings) = same (scope_of scope j bindings) name
inner_of_line f g same scope j says = refl

-- the cells of items: their own, and those of the models that they instance
items_cells : (f : Scope → Name → List Step) (g : Name → ℕ) → ((scope : Scope) (name : Name) → walk_cells (f scope name) ≡ g name)
    → (scope : Scope) (j : ℕ) (items : List Item) → walk_cells (steps_from f scope j items) ≡ own_sum items + named_sum g items
unfolding steps_from
items_cells f g same scope j [] = refl
items_cells f g same scope j (item ∷ items) =
    let acts : List Step = map (λ act. record { line = item.line; act = act }) (acts_of scope item.says item.rows) in
    let inner : List Step = inner_steps f scope j item.says in
    let own = sum_by-cons (λ (i : Item). cells_from i.rows i.says) item items in
    let named = named_more g item.line item.says item.rows items in
    let both = sum_by-append (λ (s : Step). act_cells s.act) (acts ++ inner) (steps_from f scope (next j item.says) items) in
    let line = sum_by-append (λ (s : Step). act_cells s.act) acts inner in
    let here = act_of_line scope item.line item.says item.rows in
    let there = inner_of_line f g same scope j item.says in
    let more = items_cells f g same scope (next j item.says) items in
    omega (arith, own, named, both, line, here, there, more)

module _ (models : List Model) where
  enter_cells : (depth : ℕ) (scope : Scope) (name : Name)
      → walk_cells (enter models depth scope name) ≡ number_of models cell_count depth name
  unfolding enter instances
  enter_cells zero scope name = refl
  enter_cells (suc depth) scope name = at (model_named models name) (enter_cells depth)
    where
      at : (found : Option Model)
          → ((inner : Scope) (other : Name) → walk_cells (enter models depth inner other) ≡ number_of models cell_count depth other)
          → walk_cells (option_map_or (λ (m : Model). steps_from (enter models depth) scope 0 m.items) found [])
          ≡ option_map_or (sum_over_instances cell_count models depth) found 0
      at None same = refl
      at (Some m) same =
          items_cells (enter models depth) (number_of models cell_count depth) same scope 0 m.items
          ∙ sym (sum_by_numbers models cell_count depth m)

  -- the count of cells, model by model, is the sum over the tables of the walk
  pub count-cells : walk_cells (walk models) ≡ sum_over_instances cell_count models 32 (main_of models)
  unfolding walk sum_over_instances instances
  count-cells = items_cells (enter models 32) (number_of models cell_count 32) (enter_cells 32) top 0 (main_of models).items
