-- Shapes of private steps: the models of a file and their counts, line by line.
use Rattle.std.specs.Prelude.{ℕ, ◌*◌, max, Bool, true, false, List, [], ◌∷◌, length, Option, Some, None}
use Rattle.std.specs.List.{before_first}
use Rattle.fm_base.specs.Names.{Name}
use Rattle.blif_model.specs.LineFault.{Said}
use Rattle.blif_model.specs.Models.{Model, Instance, cell_count, instances, items_of, main_of, sum_over_instances}
use Rattle.blif_model.specs.Statement.{Statement, model, inputs, outputs, clock, table, instance, end, row, passed}
use Rattle.blif_model.specs.Walk.{nets_of, walk}

-- a row goes before the rows below it, a line that is read past leaves them, and any other line has none of them
abbrev pub rows_from : List (List Name) → Statement → List (List Name)
rows_from below (row tokens) = tokens ∷ below
rows_from below passed = below
rows_from below _ = []

-- a model ends at its `.end` line and at the next `.model` line
abbrev pub ends_model : Statement → Bool
ends_model end = true
ends_model (model name) = true
ends_model _ = false

-- a `.model` line begins a model, with the lines below it up to its end
abbrev pub model_from : ℕ → List Said → Statement → List Model
model_from number below (model name) =
    record { name = name; line = number; items = items_of (before_first (λ line. ends_model line.says) below) } ∷ []
model_from number below _ = []

-- the names that each instance binds
abbrev pub formal_names : Statement → List Name
formal_names (inputs names) = names
formal_names (clock names) = names
formal_names _ = []

-- those that it may bind
abbrev pub port_names : Statement → List Name
port_names (outputs names) = names
port_names says = formal_names says

-- the instance of a line, if it is a `.subckt` line
abbrev pub instance_from : ℕ → Statement → Option Instance
instance_from number (instance name bindings) = Some (record { line = number; name = name; bindings = bindings })
instance_from number _ = None

-- the instances of a model, without those in them
abbrev pub instance_count : Model → ℕ
instance_count m = length (instances m)

-- rows times inputs of a table, where no rows count as one row and no inputs as one input
abbrev pub cells_from : List (List Name) → Statement → ℕ
cells_from rows (table ins out) = max 1 (length rows) * max 1 (length ins)
cells_from rows _ = 0

-- the instances of the flattened main model
abbrev pub count_of_instances : List Model → ℕ
count_of_instances models = sum_over_instances instance_count models 32 (main_of models)

-- its cells: rows times inputs over all tables
abbrev pub count_of_cells : List Model → ℕ
count_of_cells models = sum_over_instances cell_count models 32 (main_of models)

-- its nets
abbrev pub count_of_nets : List Model → ℕ
count_of_nets models = length (nets_of (walk models))
