use Rattle.std.proofs.Common.{sym, ◌∙◌}
use Rattle.place_set.proofs.Masks.{set_bit, set_bit_other}
use Rattle.region_search.proofs.truth.with_row.Goals as goal

pub returns-then-value-clause-there : goal.returns-then-value-clause-there
returns-then-value-clause-there c = set_bit c.args.truth c.args.row c.requires.small ∙ sym c.if-value.true

pub returns-then-value-clause-others : goal.returns-then-value-clause-others
returns-then-value-clause-others c = λ r other. set_bit_other c.args.truth c.args.row r c.requires.small other
