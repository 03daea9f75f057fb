use Rattle.std.proofs.Common.{◌≡◌, List, [], true, length}
use Rattle.std.specs.List.{All}
use Rattle.circuit.specs.declared.parts.NetId.{NetId}
use Rattle.circuit.specs.Value.{bit_at}
use Rattle.reach.specs.Search.{Grows, IsSearch, work_left}
use Rattle.reach.proofs.search.Search.finish.Given as goal

-- the search goes on
abbrev pub invariant-loop-net : goal.invariant-loop-net
invariant-loop-net l = record {
  size : length l.self.marks.items ≡ length l.netlist.drivers;
  left : All (λ (net : NetId). bit_at l.self.marks.items net.0 ≡ true) l.self.left.items;
  search : (goals : List NetId) → IsSearch l.netlist goals l.initial.self.marks.items l.initial.self.left.items []
      → IsSearch l.netlist goals l.self.marks.items l.self.left.items [];
  grows : Grows l.initial.self.marks.items l.self.marks.items;
}

-- the steps that are left
abbrev pub decreases-loop-net : goal.decreases-loop-net
decreases-loop-net l = work_left l.self
