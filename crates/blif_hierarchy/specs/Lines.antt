-- The `.subckt` lines among lines.
use Rattle.std.specs.Prelude.{Option, option_and_then}
use Rattle.blif_model.specs.LineFault.{Said}
use Rattle.blif_model.specs.Models.{Instance}
use Rattle.blif_model.specs.ModelSteps.{instance_from}

-- the instance of a line, if it is a `.subckt` line
abbrev pub instance_at : Said → Option Instance
instance_at line = instance_from line.number line.says

-- the answer of a line: any line but a `.subckt` line gives none
abbrev pub instance_answer : {Y : Type 0} → (Instance → Option Y) → Said → Option Y
instance_answer answer line = option_and_then answer (instance_at line)
