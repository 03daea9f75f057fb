use Rattle.std.proofs.Common.{◌≡◌, take}
use Rattle.refusals.proofs.CheckText.{units_of}
use Rattle.refusals.proofs.check_text.units.Given as goal

abbrev pub invariant-loop-k : goal.invariant-loop-k
invariant-loop-k l = l.units ≡ units_of (take l.k l.plan.rates.parts)
