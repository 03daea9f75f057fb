use Rattle.std.proofs.Common.{◌≡◌, drop}
use Rattle.lane_words.specs.Loads.{somes}
use Rattle.differential_kernel.proofs.picks.is_loaded.Given as goal

-- the faults that are left are all that there are
abbrev pub invariant-loop-fault : goal.invariant-loop-fault
invariant-loop-fault l = somes (drop l.fault-index l.faults) ≡ somes l.faults
