use Rattle.std.proofs.Common.{◌&&◌, bit_and, ap, ap₂, ◌∙◌}
use Rattle.fm_base.proofs.Bits.{bit_of_and}
use Rattle.pair_sets.specs.Pairs.{has}
use Rattle.pair_sets.proofs.TwoNets.{two_left}
use Rattle.pair_sets.proofs.table.TableRule.narrow_two.Goals as goal

pub returns : goal.returns
returns c =
    let first = c.choices.result in
    let second = c.choices-2.result in
    let drives = c.choices-3.result in
    record {
      left = two_left c.args.self.truth c.args.self.site c.args.reads.now c.args.own c.driving.result c.requires.two c.driving.ensures
          (record { golden = c.table_values.result; faulty = c.table_values-2.result }) c.table_values.ensures c.table_values-2.ensures
          (bit_and (bit_and first second) drives)
          (λ k lt. bit_of_and (bit_and first second) drives k
          ∙ ap₂ (λ a b. a && b) (bit_of_and first second k ∙ ap₂ (λ a b. a && b) (c.choices.ensures k lt) (c.choices-2.ensures k lt)) (c.choices-3.ensures k lt))
          c.pairs.result c.pairs-2.result c.pairs-3.result c.and.result c.pairs.ensures c.pairs-2.ensures c.pairs-3.ensures
          (λ a b. c.and.ensures a b ∙ ap (λ v. v && has c.args.own a b) (c.shown.ensures a b));
    }
