-- What only the proof of `Simulated::by` cites.
use Rattle.row_audit.specs.declared.kernel.Kernel.{Kernel}
use Rattle.row_audit.specs.Simulated.{WasSimulatedBy}

pub was_simulated : (kernel : Kernel) → WasSimulatedBy kernel
unfolding WasSimulatedBy
was_simulated kernel = tt
