-- The models of a netlist file, and how they instance one another. Source: the `.model` and `.subckt` lines of BLIF of SIS.
use Rattle.std.specs.Prelude.{ℕ, zero, suc, ◌+◌, ◌*◌, max, Bool, true, false, ◌||◌, List, [], ◌∷◌, ◌++◌, length, Option, Some, None, bytes_eq, slice_index_or, flat_map, filter_map, find, sum_by}
use Rattle.std.specs.List.{list_any, before_first}
use Rattle.std.specs.Option.{option_map_or}
use Rattle.blif_model.specs.LineFault.{Said, said_lines}
use Rattle.blif_model.specs.Statement.{Binding, Statement, model, inputs, outputs, clock, table, instance, end, row, passed}
use Rattle.fm_base.specs.Names.{Name, Bytes}

-- a line of a model, and for a table its rows
pub record Item : Type 0 where
  pub line : ℕ
  pub says : Statement
  pub rows : List (List Name)

-- a model: its name, the number of its `.model` line, and the lines after it
pub record Model : Type 0 where
  pub name : Name
  pub line : ℕ
  pub items : List Item

-- a `.subckt` line
pub record Instance : Type 0 where
  pub line : ℕ
  pub name : Name
  pub bindings : List Binding

-- ---- the models of a file

-- the rows that stand directly below a line; lines that are read past don't count
unfoldable pub rows_below : List Said → List (List Name)
rows_below [] = []
rows_below (line ∷ lines) = elim line.says [ row tokens ↦ tokens ∷ rows_below lines | passed ↦ rows_below lines | _ ↦ [] ]

-- lines as items
unfoldable pub items_of : List Said → List Item
items_of [] = []
items_of (line ∷ lines) = record { line = line.number; says = line.says; rows = rows_below lines } ∷ items_of lines

-- the models of a file, in its order: a `.model` line begins one, which ends at the next `.end` or `.model` line
unfoldable pub models_of : List Said → List Model
models_of [] = []
models_of (line ∷ lines) =
    let items = items_of (before_first (λ below. elim below.says [ end ↦ true | model name ↦ true | _ ↦ false ]) lines) in
    elim line.says [ model name ↦ record { name = name; line = line.number; items = items } ∷ [] | _ ↦ [] ] ++ models_of lines

-- the first model is the main one
abbrev pub main_of : List Model → Model
main_of models = slice_index_or models 0 (record { name = []; line = 1; items = [] })

-- a value of the model of a name, or the default where there is none
abbrev pub at_model : {X : Type 0} → List Model → Name → (Model → X) → X → X
at_model models name value default = option_map_or value (find (λ m. bytes_eq m.name name) models) default

-- ---- instances

-- the `.subckt` lines of a model, in order
unfoldable pub instances : Model → List Instance
instances m = filter_map (λ i. elim i.says [ instance n bs ↦ Some (record { line = i.line; name = n; bindings = bs }) | _ ↦ None ]) m.items

-- the model has this name, or reaches the name by at most so many instances, one in the other
unfoldable pub reaches : List Model → ℕ → Name → Model → Bool
reaches models zero name m = bytes_eq m.name name
reaches models (suc n) name m = bytes_eq m.name name || list_any (λ i. at_model models i.name (reaches models n name) false) (instances m)

-- so many instances stand one in the other, from this model down
unfoldable pub has_nest : List Model → ℕ → Model → Bool
has_nest models zero m = true
has_nest models (suc depth) m = list_any (λ i. at_model models i.name (has_nest models depth) false) (instances m)

-- ---- counts

-- a number of each model, summed over the model and all instances in it down to this depth
unfoldable pub sum_over_instances : (Model → ℕ) → List Model → ℕ → Model → ℕ
sum_over_instances f models zero m = f m
sum_over_instances f models (suc depth) m = f m + sum_by (λ i. at_model models i.name (sum_over_instances f models depth) 0) (instances m)

-- ---- shapes of private steps: the models of a file, one of a name, and what is told of a model

-- the models of the bytes of a file
unfoldable pub file_models : Bytes → List Model
file_models bytes = models_of (said_lines bytes)

-- the model of a name
abbrev pub model_named : List Model → Name → Option Model
model_named models name = find (λ m. bytes_eq m.name name) models

-- the formal inputs of a model, which each instance binds: the names on its `.inputs` and `.clock` lines
unfoldable pub formal_inputs : Model → List Name
formal_inputs m = flat_map (λ item. elim item.says [ inputs names ↦ names | clock names ↦ names | _ ↦ [] ]) m.items

-- the formals of a model, which an instance may bind: those on its `.outputs` lines too
unfoldable pub formals : Model → List Name
formals m = flat_map (λ item. elim item.says [ inputs names ↦ names | outputs names ↦ names | clock names ↦ names | _ ↦ [] ]) m.items

-- the cells of a model's own tables: rows times inputs, where no rows count as one row and no inputs as one input
abbrev pub cell_count : Model → ℕ
cell_count m = sum_by (λ item. elim item.says [ table ins out ↦ max 1 (length item.rows) * max 1 (length ins) | _ ↦ 0 ]) m.items
