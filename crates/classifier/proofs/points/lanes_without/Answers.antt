use Rattle.std.proofs.Common.{◌-◌, ◌&&◌, ap, ◌∙◌}
use Rattle.fm_base.specs.Planes.{bit}
use Rattle.fm_base.proofs.Bits.{bit_of_and, bit_of_not}
use Rattle.classifier.proofs.points.lanes_without.Goals as goal

pub returns : goal.returns
returns c = λ k lt.
    bit_of_and c.args.plane (18446744073709551615 - c.args.other) k ∙ ap (λ b. bit c.args.plane k && b) (bit_of_not c.args.other k c.ranges.other.fits lt)
