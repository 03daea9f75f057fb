use Rattle.std.proofs.Common.{◌≡◌, ◌<◌, ℕ, Bool, false, get_or}
use Rattle.circuit.specs.Order.{net_at}
use Rattle.region_search.specs.Truth.{row_of}
use Rattle.region_search.proofs.truth.gives_in.Given as goal

abbrev pub invariant-loop-i : goal.invariant-loop-i
invariant-loop-i l = (values : ℕ → Bool) → l.row ≡ row_of values l.reads → (k : ℕ) → k < l.i → get_or l.bits k false ≡ values (net_at l.ins k).0
