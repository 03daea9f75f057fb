-- The answer that there is no memory. It carries its evidence: whoever answers it was refused a request.
use Rattle.refusals.specs.declared.status.Status.{Status}
use Rattle.refusals.specs.declared.status.Status.TheVariants as status

-- memory ran out
abbrev pub IsMemory : Status → Type 0
IsMemory (status.Memory no_room) = Unit {0}
IsMemory _ = ⊥
