use Rattle.std.proofs.Common.{◌-◌, ◌&&◌, ◌||◌, bit_and, ap, ap₂, ◌∙◌}
use Rattle.fm_base.specs.Planes.{bit}
use Rattle.fm_base.proofs.Bits.{bit_of_and, bit_of_not, bit_of_or}
use Rattle.pair_sets.proofs.Words.{picked}
use Rattle.pair_sets.proofs.values.pick.Goals as goal

pub returns : goal.returns
returns c = λ k lt.
    let by = c.args.by in
    bit_of_or (bit_and c.args.zero (18446744073709551615 - by)) (bit_and c.args.one by) k
    ∙ ap₂ (λ a b. a || b)
    (bit_of_and c.args.zero (18446744073709551615 - by) k ∙ ap (λ b. bit c.args.zero k && b) (bit_of_not by k c.ranges.by.fits lt))
    (bit_of_and c.args.one by k)
    ∙ picked (bit by k) (bit c.args.zero k) (bit c.args.one k)
