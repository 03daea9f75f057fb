use Rattle.std.proofs.Common.{ap, sym, ◌∙◌}
use Rattle.fm_base.specs.Lists.{same_bit}
use Rattle.fm_base.specs.Planes.{bit}
use Rattle.fm_base.proofs.Bits.{bit_of_not}
use Rattle.pair_sets.proofs.values.where_it_is.Goals as goal

pub returns-else-value : goal.returns-else-value
returns-else-value c = λ k lt.
    bit_of_not c.args.values k c.ranges.values.fits lt ∙ sym (ap (λ v. same_bit v (bit c.args.values k)) c.if-value.false)
