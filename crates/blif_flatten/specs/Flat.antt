-- The flattened main model over numbered names.
use Rattle.std.specs.Prelude.{◌≡◌, ℕ, ◌<◌, List, [], ◌∷◌, ◌++◌, All, length, slice_index_or, map, flat_map}
use Rattle.std.specs.Option.{option_map, option_to_list}
use Rattle.fm_base.specs.Names.{Name, distinct}
use Rattle.blif_model.specs.Models.{rows_below}
use Rattle.blif_model.specs.Statement.{LatchLine}
use Rattle.blif_model.specs.Walk.{Act, takes, gives, clocks, visits, flat_table, flat_latch, Step, visited}
use Rattle.blif_model.specs.WalkSteps.{control_of}
use Rattle.blif_flatten.specs.declared.flat.NameId.{NameId}
use Rattle.blif_flatten.specs.declared.flat.NumberedLatch.{NumberedLatch}
use Rattle.blif_flatten.specs.declared.flat.NumberedTable.{NumberedTable}
use Rattle.blif_flatten.specs.declared.flat.NumberedAct.{NumberedAct}
use Rattle.blif_flatten.specs.declared.flat.NumberedAct.TheVariants.{Inputs, Outputs, Clocks, PortNets, Table, Latch}
use Rattle.blif_flatten.specs.declared.flat.NumberedStep.{NumberedStep}

-- ---- what numbers stand for

-- the name of a number
abbrev pub name_at : List Name → NameId → Name
name_at names id = slice_index_or names id.0 []

abbrev pub latch_by : (NameId → Name) → NumberedLatch → LatchLine
latch_by name_of l = record {
  from = name_of l.from;
  to = name_of l.to;
  edge = option_map (λ e. e.now) l.edge;
  control = option_map name_of l.control;
  start = l.start;
}

abbrev pub table_by : (NameId → Name) → NumberedTable → Act
table_by name_of t = flat_table (map name_of t.ins) (name_of t.out) (rows_below t.below.now)

abbrev pub act_by : (NameId → Name) → NumberedAct → Act
act_by name_of (Inputs ids) = takes (map name_of ids)
act_by name_of (Outputs ids) = gives (map name_of ids)
act_by name_of (Clocks ids) = clocks (map name_of ids)
act_by name_of (PortNets ids) = visits (map name_of ids)
act_by name_of (Table t) = table_by name_of t
act_by name_of (Latch l) = flat_latch (latch_by name_of l)

abbrev pub step_by : (NameId → Name) → NumberedStep → Step
step_by name_of s = record { line = s.line; act = act_by name_of s.act }

-- the steps of numbered steps
abbrev pub steps_by : List Name → List NumberedStep → List Step
steps_by names steps = map (step_by (name_at names)) steps

-- ---- the names of steps

-- the names of a line: those of its nets, and of a latch's control
abbrev pub mentioned : Act → List Name
mentioned act = visited act ++ control_of act

-- the names of steps in order of first mention
unfoldable pub all_names : List Step → List Name
all_names steps = distinct (flat_map (λ s. mentioned s.act) steps)

-- ---- numbers that have a name

-- the numbers of a line
abbrev pub ids_in : NumberedAct → List NameId
ids_in (Inputs ids) = ids
ids_in (Outputs ids) = ids
ids_in (Clocks ids) = ids
ids_in (PortNets ids) = ids
ids_in (Table t) = t.ins ++ t.out ∷ []
ids_in (Latch l) = l.from ∷ l.to ∷ option_to_list l.control

-- each is below the number of names
abbrev pub AreBelow : ℕ → List NameId → Type 0
AreBelow count ids = All (λ id. id.0 < count) ids

-- each number has a name, and the names are those of the steps, each at its first mention
pub record IsFlat (names : List Name) (steps : List NumberedStep) : Type 0 where
  pub within : All (λ s. AreBelow (length names) (ids_in s.act)) steps
  pub first : names ≡ all_names (steps_by names steps)
