use Rattle.std.proofs.Common.{inl, refl, ap, sym, ◌∙◌, arith}
use Rattle.std.specs.Prelude.{slice_index}
use Rattle.blif_hierarchy.specs.Components.{targets}
use Rattle.blif_hierarchy.proofs.SearchSteps.{past_search}
use Rattle.blif_hierarchy.proofs.search.Search.look_ahead.Goals as goal
use Rattle.blif_hierarchy.proofs.search.Search.look_ahead.Goals.{in-Open, in-Done}

pub edges-preserved : goal.edges-preserved
edges-preserved c =
    let old = c.edges.invariant in
    let y = slice_index c.targets_of-targets.result.now c.edges.frame.next in
    let are = c.targets_of-targets.ensures ∙ ap (targets c.args.edges.now) (sym old.node) in
    let more = rw are at c.edges-test.true in
    let is = ap (λ xs. slice_index xs c.edges.frame.next) are in
    elim c.match-mark_of.branch [
      | in-Open w ↦
          (let o = rw c.as_slice.ensures.value at (sym c.mark_of.ensures ∙ w.in-Open.is) in
          let search = past_search old.search y w.min.result more is (omega arith) (rw o (omega arith)) (grind arith) in
          rw w.frame-is record { node = old.node; search = search })
      | in-Done w ↦
          (let d = rw c.as_slice.ensures.value at (sym c.mark_of.ensures ∙ w.in-Done.is) in
          let search = past_search old.search y c.edges.frame.low more is (omega arith) (rw d tt) (inl refl) in
          rw w.frame-is record { node = old.node; search = search })
    ]
