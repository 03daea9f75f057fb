use Rattle.std.proofs.Common.{◌≡◌, ◌<◌, ℕ, length}
use Rattle.circuit.specs.Order.{net_at}
use Rattle.pair_sets.specs.Choice.{set_at}
use Rattle.pair_sets.specs.Tables.{IsSetOf}
use Rattle.region_search.specs.Going.{sets_of}
use Rattle.region_search.proofs.search.Search.gather.Given as goal

abbrev pub invariant-loop-i : goal.invariant-loop-i
invariant-loop-i l = record {
  size : length l.into ≡ length l.nets;
  each : (j : ℕ) → j < l.i → IsSetOf (sets_of l.self.sets) l.frame (net_at l.nets j) (set_at l.into j);
}
