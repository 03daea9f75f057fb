use Rattle.std.proofs.Common.{ap₂, ◌∙◌}
use Rattle.std.specs.Prelude.{if◌then◌else◌}
use Rattle.fm_base.specs.Planes.{bit}
use Rattle.pair_sets.proofs.Words.{row_bit}
use Rattle.pair_sets.proofs.values.table_values.Goals as goal

pub returns : goal.returns
returns c = λ k lt.
    let one = c.pick-one.ensures k lt
    ∙ ap₂ (λ o z. if bit c.args.second k then o else z) (c.everywhere-4.ensures k lt ∙ c.gives-4.ensures) (c.everywhere-3.ensures k lt ∙ c.gives-3.ensures) in
    let zero = c.pick-zero.ensures k lt
    ∙ ap₂ (λ o z. if bit c.args.second k then o else z) (c.everywhere-2.ensures k lt ∙ c.gives-2.ensures) (c.everywhere.ensures k lt ∙ c.gives.ensures) in
    c.pick.ensures k lt ∙ ap₂ (λ o z. if bit c.args.first k then o else z) one zero ∙ row_bit c.args.truth (bit c.args.first k) (bit c.args.second k)
