use Rattle.std.proofs.Common.{◌≡◌, ◌≢◌, ◌<◌, ℕ, length}
use Rattle.circuit.specs.Order.{net_at}
use Rattle.claim_search.specs.Sites.{site_at}
use Rattle.claim_search.proofs.sites.mark.Given as goal

abbrev pub invariant-loop-net : goal.invariant-loop-net
invariant-loop-net l = record {
  size : length l.sites ≡ length l.initial.sites;
  there : (k : ℕ) → k < l.net-index → site_at l.sites (net_at l.nets k).0 ≡ l.site;
  elsewhere : (n : ℕ) → ((k : ℕ) → k < l.net-index → (net_at l.nets k).0 ≢ n) → site_at l.sites n ≡ site_at l.initial.sites n;
}
