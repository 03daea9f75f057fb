use Rattle.std.proofs.Common.{◌≡◌, ℕ, ◌<◌, true}
use Rattle.circuit.specs.Order.{net_at}
use Rattle.circuit.specs.Value.{bit_at}
use Rattle.always_answers.proofs.parts.has_unmarked.Given as goal

abbrev pub invariant-loop-net : goal.invariant-loop-net
invariant-loop-net l = (i : ℕ) → i < l.net-index → bit_at l.marks (net_at l.nets i).0 ≡ true
