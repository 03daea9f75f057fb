-- Shapes of private steps: the words of the table that the report doesn't have. The promise on the program doesn't cite them.
use Rattle.std.specs.Prelude.{Bool, if◌then◌else◌, codes}
use Rattle.circuit.specs.declared.parts.Fault.{Fault}
use Rattle.circuit.specs.declared.parts.Fault.TheVariants.{Stuck, Flip, Pulse}
use Rattle.fm_base.specs.Names.{Bytes}

-- the kind of a fault
abbrev pub kind_word : Fault → Bytes
kind_word fault = elim fault [ Stuck n value ↦ codes "stuck-at" | Flip latch cycle ↦ codes "flip" | Pulse n cycle ↦ codes "pulse" ]

-- whether a safety mechanism covers a part, as a rates file says it
abbrev pub covered_word : Bool → Bytes
covered_word covered = if covered then codes "yes" else codes "no"

-- the bit of a lane in a plane
abbrev pub bit_word : Bool → Bytes
bit_word value = if value then codes "1" else codes "0"
