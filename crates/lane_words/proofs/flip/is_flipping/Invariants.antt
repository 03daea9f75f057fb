use Rattle.std.proofs.Common.{◌≡◌, drop}
use Rattle.std.specs.List.{list_any}
use Rattle.lane_words.specs.Loads.{is_flip_in, somes}
use Rattle.lane_words.proofs.flip.is_flipping.Given as goal

-- the faults that are left decide as all of them do
abbrev pub invariant-loop-fault : goal.invariant-loop-fault
invariant-loop-fault l = list_any (is_flip_in l.cycle) (somes (drop l.fault-index l.faults)) ≡ list_any (is_flip_in l.cycle) (somes l.faults)
