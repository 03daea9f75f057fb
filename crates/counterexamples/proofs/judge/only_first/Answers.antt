use Rattle.std.proofs.Common.{◌&&◌, ◌-◌, ap, ◌∙◌}
use Rattle.fm_base.specs.Planes.{bit}
use Rattle.fm_base.proofs.Bits.{bit_of_and, bit_of_not}
use Rattle.counterexamples.proofs.judge.only_first.Goals as goal

pub returns : goal.returns
returns c = λ k lt. bit_of_and c.args.a (18446744073709551615 - c.args.b) k ∙ ap (λ other. bit c.args.a k && other) (bit_of_not c.args.b k c.ranges.b.fits lt)
