use Rattle.std.proofs.Common.{map, ap, sym, subst, ◌∙◌, arith}
use Rattle.std.proofs.lemmas.Result.{IfOk-weaker}
use Rattle.blif_hierarchy.specs.Components.{AreComponents}
use Rattle.blif_hierarchy.specs.NodeNumbers.{node_number}
use Rattle.blif_hierarchy.proofs.SearchEnd.{are_components}
use Rattle.blif_hierarchy.proofs.components.components.Goals as goal

pub returns : goal.returns
returns c =
    let s = c.loop-root.invariant in
    let end = c.loop-root-test.false in
    IfOk-weaker c.numbers_of.result _ _
    (λ v e. subst (AreComponents c.args.edges.now) (sym (e ∙ ap (map node_number) c.as_slice.ensures.value))
    (are_components s.search s.idle (λ x lt. s.seen x (omega arith)))) c.numbers_of.ensures
