use Rattle.std.proofs.Common.{◌≡◌, drop}
use Rattle.circuit.specs.Effects.{forced}
use Rattle.lane_words.specs.Loads.{somes}
use Rattle.lane_words.proofs.force.stuck_value.Given as goal

-- the faults that are left decide as all of them do
abbrev pub invariant-loop-fault : goal.invariant-loop-fault
invariant-loop-fault l = forced (somes (drop l.fault-index l.faults)) l.net.0 l.own ≡ forced (somes l.faults) l.net.0 l.own
