-- Lanes that keep what they were loaded with.
use Rattle.std.proofs.Common.{◌≡◌}
use Rattle.golden_difference.specs.Lanes.{KeepsLoads, Lanes}
use Rattle.testbench.specs.Load.{load_of}

pub load_kept : {W : Type 0} (old new : Lanes W) → KeepsLoads old new → load_of new ≡ load_of old
load_kept old new keeps = λ i. record { circuit = keeps.circuit i; order = keeps.order i; faults = keeps.loads i }
