-- What a line says, by what was found out when it was read.
use Rattle.std.specs.Prelude.{Bool, List, [], ◌∷◌, Option, Some, None}
use Rattle.fm_base.specs.Names.{Name}
use Rattle.blif_text.specs.declared.NetlistKind.TheVariants as kinds
use Rattle.blif_model.specs.Statement.{Statement, inputs, outputs, clock, latch, instance, row, passed, wrong, table_line}
use Rattle.blif_model.specs.StatementSteps.{model_line, named_control, plain_latch, end_line}
use Rattle.blif_model.specs.Kinds.{kind_of_malformed}
use Rattle.blif_model.specs.Meant.{bindings_of}
use Rattle.blif_model.specs.declared.directive.Directive.{Directive}
use Rattle.blif_model.specs.declared.directive.Directive.TheVariants.{Model, Inputs, Outputs, Clock, Table, Latch, Instance, End, Passed, Wrong}

-- the names behind `.latch`, where type and initial value are good and the latch starts so
abbrev pub latch_statement : Bool → List Name → Statement
latch_statement start (from ∷ to ∷ []) = plain_latch from to start
latch_statement start (from ∷ to ∷ init ∷ []) = plain_latch from to start
latch_statement start (from ∷ to ∷ edge ∷ control ∷ names) =
    latch (record { from = from; to = to; edge = Some edge; control = named_control control; start = start })
latch_statement start _ = wrong kinds.BadLatch

-- the names behind `.subckt`, where all bindings are good
abbrev pub instanced : List Name → Statement
instanced (name ∷ bindings) = instance name (bindings_of bindings)
instanced [] = wrong kinds.BadToken

-- the names behind a directive
abbrev pub directed : Directive → List Name → Statement
directed Model names = model_line names
directed Inputs names = inputs names
directed Outputs names = outputs names
directed Clock names = clock names
directed Table names = table_line names
directed (Latch start) names = latch_statement start names
directed Instance names = instanced names
directed End names = end_line names
directed Passed names = passed
directed (Wrong why) names = wrong (kind_of_malformed why)

-- the tokens of a line, which is a row where there is no directive
abbrev pub stated : Option Directive → List Name → Statement
stated None names = row names
stated (Some Passed) names = passed
stated (Some directive) (word ∷ names) = directed directive names
stated (Some directive) [] = passed
