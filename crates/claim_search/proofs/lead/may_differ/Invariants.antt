use Rattle.std.proofs.Common.{◌≡◌, ◌<◌, ℕ, Bool, true, false}
use Rattle.circuit.specs.Order.{net_at}
use Rattle.coverage_claim.specs.Claim.{unequal}
use Rattle.region_search.specs.Going.{sets_of}
use Rattle.claim_search.proofs.lead.may_differ.Given as goal

abbrev pub invariant-loop-net : goal.invariant-loop-net
invariant-loop-net l = (j : ℕ) → j < l.net-index → (a b : Bool) → unequal a b ≡ true → sets_of l.search.sets 0 (net_at l.nets j).0 a b ≡ false
