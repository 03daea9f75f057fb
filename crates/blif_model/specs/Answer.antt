-- What is read of a file: its models, unless a line is faulty.
use Rattle.std.specs.Prelude.{List, Option, Some, None, Result, Ok, Err}
use Rattle.fm_base.specs.Names.{Bytes}
use Rattle.blif_text.specs.declared.NetlistFault.{NetlistFault}
use Rattle.blif_model.specs.LineFault.{said_lines, line_fault}
use Rattle.blif_model.specs.Models.{Model, file_models}

-- the models, unless there is a fault
abbrev pub models_unless : Option NetlistFault → List Model → Result (List Model) NetlistFault
models_unless (Some fault) models = Err fault
models_unless None models = Ok models

-- the models of a file's bytes, or the fault of its first faulty line
abbrev pub models_read : Bytes → Result (List Model) NetlistFault
models_read bytes = models_unless (line_fault (said_lines bytes)) (file_models bytes)
