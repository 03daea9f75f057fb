use Rattle.std.proofs.Common.{◌≡◌, map}
use Rattle.fm_base.specs.Lists.{below}
use Rattle.campaign_tables.specs.PartTable.{row_of_net}
use Rattle.campaign_tables.proofs.look.rows_of_nets.Given as goal

abbrev pub invariant-loop-n : goal.invariant-loop-n
invariant-loop-n l = l.rows.items ≡ map (row_of_net l.net l.rates) (below l.n)
