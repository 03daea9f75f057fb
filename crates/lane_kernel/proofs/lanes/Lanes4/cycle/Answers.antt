use Rattle.std.proofs.Common.{sym, subst}
use Rattle.lane_words.specs.Bits.{quad_bit}
use Rattle.lane_words.specs.Bank.{AreAfter}
use Rattle.lane_kernel.proofs.lanes.Lanes4.cycle.Goals as goal

pub returns-clause-step : goal.returns-clause-step
returns-clause-step g c = λ vectors after. c.cycle.ensures.step vectors (subst (AreAfter 256 quad_bit vectors) (sym c.self.view_is) after)
