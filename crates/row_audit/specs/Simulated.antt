-- By which kernel an audit has simulated.
pub mod Witness
use Rattle.std.specs.Coded.{Unit-prop}
use Rattle.row_audit.specs.declared.kernel.Kernel.{Kernel}

-- THIS KERNEL HAS SIMULATED the rows that were judged. The word is sealed: only this file and `Witness` below it can unfold it
pub WasSimulatedBy : Kernel → Type 0
WasSimulatedBy kernel = Unit {0}

pub WasSimulatedBy-prop : (kernel : Kernel) → IsProp (WasSimulatedBy kernel)
unfolding WasSimulatedBy
WasSimulatedBy-prop kernel = Unit-prop
