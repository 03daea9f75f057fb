use Rattle.std.proofs.Common.{◌≡◌, drop}
use Rattle.std.proofs.Common.{not}
use Rattle.std.specs.List.{list_any}
use Rattle.circuit.specs.Effects.{is_permanent}
use Rattle.lane_words.specs.Loads.{somes}
use Rattle.lane_kernel.proofs.load.is_transient.Given as goal

-- the faults that are left decide as all of them do
abbrev pub invariant-loop-fault : goal.invariant-loop-fault
invariant-loop-fault l = list_any (λ fault. not (is_permanent fault)) (somes (drop l.fault-index l.faults)) ≡ list_any (λ fault. not (is_permanent fault)) (somes l.faults)
