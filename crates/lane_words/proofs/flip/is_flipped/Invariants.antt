use Rattle.std.proofs.Common.{◌≡◌, drop}
use Rattle.circuit.specs.Effects.{has_flip}
use Rattle.lane_words.specs.Loads.{somes}
use Rattle.lane_words.proofs.flip.is_flipped.Given as goal

-- the faults that are left decide as all of them do
abbrev pub invariant-loop-fault : goal.invariant-loop-fault
invariant-loop-fault l = has_flip (somes (drop l.fault-index l.faults)) l.latch l.cycle ≡ has_flip (somes l.faults) l.latch l.cycle
