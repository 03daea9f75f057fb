use Rattle.std.proofs.Common.{arith}
use Rattle.classifier.proofs.batch.quad_outcomes.Goals as goal

pub narrowed_outcomes-requires-clause-narrow : goal.narrowed_outcomes-requires-clause-narrow
narrowed_outcomes-requires-clause-narrow g c = λ i none lt. absurd (omega (arith, lt))
