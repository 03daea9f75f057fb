use Rattle.std.proofs.Common.{◌≡◌, ◌<◌, ℕ, get_or}
use Rattle.circuit.specs.Order.{net_at}
use Rattle.region_search.proofs.watch.note_tables.Given as goal

abbrev pub invariant-loop-place : goal.invariant-loop-place
invariant-loop-place l = (p : ℕ) → p < l.place → get_or l.own (net_at l.order p).0 0 ≡ p
