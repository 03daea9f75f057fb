use Rattle.std.proofs.Common.{arith}
use Rattle.std.proofs.lemmas.Grind.{common_steps}
use Rattle.blif_flatten.proofs.sorts.drives.Goals as goal

pub returns-in-Latch-clause-within : goal.returns-in-Latch-clause-within
returns-in-Latch-clause-within c n below = let ids = rw c.in-Latch.is at below in λ k d lt. grind (arith, common_steps, ids 1 d)
