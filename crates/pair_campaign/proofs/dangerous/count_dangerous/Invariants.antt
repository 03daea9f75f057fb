use Rattle.std.proofs.Common.{◌≡◌, ◌≤◌}
use Rattle.std.specs.Prelude.{count_by}
use Rattle.fm_base.specs.Lists.{below}
use Rattle.pair_campaign.specs.PairPlanes.{pair_bit}
use Rattle.pair_campaign.proofs.dangerous.count_dangerous.Given as goal

abbrev pub invariant-loop-pair : goal.invariant-loop-pair
invariant-loop-pair l = record {
  counted : l.dangerous ≡ count_by (pair_bit l.planes) (below l.pair);
  few : l.dangerous ≤ l.pair;
}
