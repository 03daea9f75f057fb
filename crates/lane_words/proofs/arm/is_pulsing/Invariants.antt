use Rattle.std.proofs.Common.{◌≡◌, drop}
use Rattle.std.specs.List.{list_any}
use Rattle.lane_words.specs.Loads.{is_pulse_in, somes}
use Rattle.lane_words.proofs.arm.is_pulsing.Given as goal

-- the faults that are left decide as all of them do
abbrev pub invariant-loop-fault : goal.invariant-loop-fault
invariant-loop-fault l = list_any (is_pulse_in l.cycle) (somes (drop l.fault-index l.faults)) ≡ list_any (is_pulse_in l.cycle) (somes l.faults)
