-- What the statement of a line means.
use Rattle.std.specs.Prelude.{List, map, Option, None}
use Rattle.std.specs.Option.{option_map, option_map_or}
use Rattle.fm_base.specs.Names.{Name}
use Rattle.blif_model.specs.Statement.{Binding, LatchLine, Statement, model, inputs, outputs, clock, table, latch, instance, end, row, passed, unnamed, wrong, binding_of}
use Rattle.blif_model.specs.StatementSteps.{named_control}
use Rattle.blif_model.specs.declared.says.Clocked.{Clocked}
use Rattle.blif_model.specs.declared.says.LatchSays.{LatchSays}
use Rattle.blif_model.specs.declared.says.Says.{Says}
use Rattle.blif_model.specs.declared.says.Says.TheVariants.{Model, Inputs, Outputs, Clock, Table, Latch, Instance, End, Row, Passed, Unnamed, Wrong}
use Rattle.blif_model.specs.Kinds.{kind_of_malformed}
use Rattle.blif_model.specs.Tokens.{texts_of}

-- the type of a latch
abbrev pub edge_said : Option Clocked → Option Name
edge_said clocked = option_map (λ c. c.edge.now) clocked

-- its control, but none for `NIL`
abbrev pub control_said : Option Clocked → Option Name
control_said clocked = option_map_or (λ c. named_control c.control.now) clocked None

abbrev pub latch_line_of : LatchSays → LatchLine
latch_line_of l = record {
  from = l.from.now;
  to = l.to.now;
  edge = edge_said l.clocking;
  control = control_said l.clocking;
  start = l.start;
}

-- the bindings of tokens
abbrev pub bindings_of : List Name → List Binding
bindings_of tokens = map binding_of tokens

-- the statement that is meant
abbrev pub meant : Says → Statement
meant (Model name) = model name.now
meant (Inputs names) = inputs (texts_of names.now)
meant (Outputs names) = outputs (texts_of names.now)
meant (Clock names) = clock (texts_of names.now)
meant (Table ins out) = table (texts_of ins.now) out.now
meant (Latch l) = latch (latch_line_of l)
meant (Instance name bindings) = instance name.now (bindings_of (texts_of bindings.now))
meant End = end
meant (Row tokens) = row (texts_of tokens.now)
meant Passed = passed
meant Unnamed = unnamed
meant (Wrong why) = wrong (kind_of_malformed why)
