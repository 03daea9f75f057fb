use Rattle.std.proofs.Common.{◌≡◌, ◌<◌, ◌≤◌, ℕ, true}
use Rattle.circuit.specs.Order.{net_at}
use Rattle.circuit.specs.Value.{bit_at}
use Rattle.reach.specs.Search.{HasFound, work_left}
use Rattle.reach.proofs.search.Search.find_all.Given as goal

-- the nets so far are found
abbrev pub invariant-loop-net : goal.invariant-loop-net
invariant-loop-net l = record {
  found : HasFound l.initial.self l.nets l.self;
  marked : (i : ℕ) → i < l.net-index → bit_at l.self.marks.items (net_at l.nets i).0 ≡ true;
  less : work_left l.self ≤ work_left l.initial.self;
}
