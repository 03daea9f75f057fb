use Rattle.std.proofs.Common.{◌≡◌, drop}
use Rattle.std.specs.List.{list_any}
use Rattle.circuit.specs.Effects.{is_permanent}
use Rattle.lane_words.specs.Loads.{somes}
use Rattle.differential_kernel.proofs.note.is_stuck.Given as goal

-- the faults that are left decide as all of them do
abbrev pub invariant-loop-fault : goal.invariant-loop-fault
invariant-loop-fault l = list_any is_permanent (somes (drop l.fault-index l.faults)) ≡ list_any is_permanent (somes l.faults)
