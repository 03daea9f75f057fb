use Rattle.std.proofs.Common.{ap₂, ◌∙◌}
use Rattle.std.specs.Prelude.{if◌then◌else◌}
use Rattle.fm_base.specs.Planes.{bit}
use Rattle.pair_sets.proofs.Words.{pair_bit}
use Rattle.pair_sets.proofs.values.Values.choices.Goals as goal

pub returns : goal.returns
returns c = λ k lt.
    let values = c.args.self in
    let one = c.pick-one.ensures k lt
    ∙ ap₂ (λ o z. if bit values.golden k then o else z) (c.everywhere-4.ensures k lt ∙ c.has-4.ensures) (c.everywhere-3.ensures k lt ∙ c.has-3.ensures) in
    let zero = c.pick-zero.ensures k lt
    ∙ ap₂ (λ o z. if bit values.golden k then o else z) (c.everywhere-2.ensures k lt ∙ c.has-2.ensures) (c.everywhere.ensures k lt ∙ c.has.ensures) in
    c.pick.ensures k lt ∙ ap₂ (λ o z. if bit values.faulty k then o else z) one zero ∙ pair_bit c.args.pairs (bit values.golden k) (bit values.faulty k)
