use Rattle.std.proofs.Common.{arith}
use Rattle.blif_hierarchy.proofs.search.Search.visit.Goals as goal

pub finish-requires-clause-search : goal.finish-requires-clause-search
finish-requires-clause-search c =
    let s = c.requires.search in
    let idle = c.requires.idle in
    c.in_ok-open.ensures.search c.args.edges.now s (λ x p o. let h = (s.stack.placed x p o).0 in absurd (omega arith))
