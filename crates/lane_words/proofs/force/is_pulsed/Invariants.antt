use Rattle.std.proofs.Common.{◌≡◌, drop}
use Rattle.circuit.specs.Effects.{has_pulse}
use Rattle.lane_words.specs.Loads.{somes}
use Rattle.lane_words.proofs.force.is_pulsed.Given as goal

-- the faults that are left decide as all of them do
abbrev pub invariant-loop-fault : goal.invariant-loop-fault
invariant-loop-fault l = has_pulse (somes (drop l.fault-index l.faults)) l.net.0 l.cycle ≡ has_pulse (somes l.faults) l.net.0 l.cycle
