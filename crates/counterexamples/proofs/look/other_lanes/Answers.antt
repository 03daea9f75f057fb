use Rattle.std.proofs.Common.{◌≡◌, Bool, true, false, not, refl, ◌∙◌}
use Rattle.fm_base.specs.Lists.{same_bit}
use Rattle.fm_base.specs.Planes.{bit}
use Rattle.fm_base.proofs.Bits.{bit_of_not}
use Rattle.counterexamples.proofs.look.other_lanes.Goals as goal

other_bit : (b g : Bool) → g ≡ true → not b ≡ (not (same_bit b g))
other_bit true true e = refl
other_bit false true e = refl
other_bit b false e = absurd (cc)

pub returns-then-golden : goal.returns-then-golden
returns-then-golden c = λ k lt. bit_of_not c.args.values k c.ranges.values.fits lt ∙ other_bit (bit c.args.values k) c.args.golden c.if-golden.true
