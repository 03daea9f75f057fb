use Rattle.std.proofs.Common.{◌++◌, ◌∷◌, [], ◌+◌, false, map, take, get_or, append_assoc, ap, ◌∙◌}
use Rattle.circuit.specs.declared.parts.Latch.{Latch}
use Rattle.fanout.specs.Edges.{edges_at, edges_from}
use Rattle.fanout.proofs.Pushing.{edges_from-more}
use Rattle.fanout.proofs.edge.push_latches.Goals as goal

pub loop-number-preserved : goal.loop-number-preserved
loop-number-preserved c =
    let latches = c.args.latches.now in
    let i = c.loop-number.number in
    let first = c.args.first in
    let d : Latch = record { from = record { 0 = 0 }; to = record { 0 = 0 }; start = false } in
    c.in_ok-push_edges.ensures
    ∙ ap (λ es. es ++ edges_at (first + i) ((get_or latches i d).from ∷ [])) c.loop-number.invariant
    ∙ append_assoc c.args.edges.now.items (edges_from first (map (λ (latch : Latch). latch.from ∷ []) (take i latches))) (edges_at (first + i) ((get_or latches i d).from ∷ []))
    ∙ ap (λ es. c.args.edges.now.items ++ es) (edges_from-more (λ (latch : Latch). latch.from ∷ []) first latches i d c.loop-number-test.true)
