use Rattle.row_audit.specs.Simulated.Witness.{was_simulated}
use Rattle.row_audit.proofs.simulated.Simulated.by.Goals as goal

pub invariant_of-result : goal.invariant_of-result
invariant_of-result c = record { why = was_simulated c.args.kernel }
