use Rattle.std.proofs.Common.{◌≡◌, []}
use Rattle.netlist_levels.specs.Search.{Searches}
use Rattle.netlist_levels.proofs.search.Search.visit_ranked.Given as goal

-- the search goes on, and no table is open
abbrev pub invariant-loop-rank : goal.invariant-loop-rank
invariant-loop-rank l = (Searches l.net l.self) × (l.self.stack.items ≡ [])
