use Rattle.std.proofs.Common.{arith}
use Rattle.pair_sets.proofs.Rows.{six_room}
use Rattle.region_search.proofs.RowDigits.{shifted}
use Rattle.region_search.proofs.truth.rows_of.Goals as goal

pub returns-clause-value : goal.returns-clause-value
returns-clause-value c = shifted c.args.count c.requires

pub returns-clause-few : goal.returns-clause-few
returns-clause-few c = omega (arith, shifted c.args.count c.requires, six_room c.args.count c.requires)
