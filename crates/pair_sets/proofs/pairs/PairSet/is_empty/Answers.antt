use Rattle.pair_sets.specs.Pairs.{has}
use Rattle.pair_sets.proofs.Sets.{none_of_four}
use Rattle.pair_sets.proofs.pairs.PairSet.is_empty.Goals as goal

pub returns : goal.returns
returns c = none_of_four (has c.args.self) c.has_some.result c.has_some.ensures
