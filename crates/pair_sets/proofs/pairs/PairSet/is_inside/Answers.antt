use Rattle.pair_sets.specs.Pairs.{has}
use Rattle.pair_sets.proofs.Sets.{inside_if}
use Rattle.pair_sets.proofs.pairs.PairSet.is_inside.Goals as goal

pub returns-clause-inside : goal.returns-clause-inside
returns-clause-inside c = inside_if (has c.args.self) (has c.args.other) c.loses_some.result c.loses_some.ensures
