use Rattle.std.proofs.Common.{◌≡◌, ◌&&◌, Bool, true, false, not, refl, ◌∙◌}
use Rattle.fm_base.specs.Planes.{bit}
use Rattle.fm_base.proofs.Bits.{bit_of_not}
use Rattle.row_audit.proofs.points.silenced_lanes.Goals as goal

silent_bit : (b g : Bool) → g ≡ true → not b ≡ (not b && g)
silent_bit true true e = refl
silent_bit false true e = refl
silent_bit b false e = absurd (cc)

pub returns-then-golden : goal.returns-then-golden
returns-then-golden c = λ k lt. bit_of_not c.args.values k c.ranges.values.fits lt ∙ silent_bit (bit c.args.values k) c.args.golden c.if-golden.true
