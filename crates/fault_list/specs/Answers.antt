-- What is answered where a fault list is asked for: the list, where it is short enough.
use Rattle.std.specs.Prelude.{◌≡◌, ◌<◌, ◌≤◌, List, length, Result, Ok, Err}
use Rattle.circuit.specs.declared.parts.Fault.{Fault}
use Rattle.fault_list.specs.declared.FaultRefusal.{FaultRefusal}
use Rattle.fault_list.specs.declared.FaultRefusal.TheVariants.{TooMany, Memory}
use Rattle.fault_list.specs.Kept.{most_faults}

-- the list where it has at most 2^20 faults, and else a refusal; of a list that is short enough memory may be wanting
abbrev pub AnswersFaults : List Fault → Result (List Fault) FaultRefusal → Type 0
AnswersFaults expected (Ok faults) = (faults ≡ expected) × (length expected ≤ most_faults)
AnswersFaults expected (Err TooMany) = most_faults < length expected
AnswersFaults expected (Err (Memory no_room)) = length expected ≤ most_faults
