use Rattle.std.proofs.Common.{rules}
use Rattle.collapse_map.specs.Fixed.{fixed_value}
use Rattle.std.proofs.lemmas.Grind.{common_steps}
use Rattle.std.proofs.Common.{arith}
use Rattle.collapse_map.proofs.fixed.fixed_value.Goals as goal

pub returns-then-is_stopping : goal.returns-then-is_stopping
unfolding fixed_value
returns-then-is_stopping c = grind (arith, common_steps)

pub returns-then-is_some_made : goal.returns-then-is_some_made
unfolding fixed_value
returns-then-is_some_made c = grind (arith, common_steps)

pub returns : goal.returns
unfolding fixed_value
returns c = grind (arith, common_steps)
