use Rattle.std.proofs.Common.{inl, inr, ◌<◌, length, sym, subst, ◌∙◌, arith}
use Rattle.std.proofs.lemmas.Bool.{cases_eq}
use Rattle.golden_run.specs.Events.{IsSettled, ordered_of}
use Rattle.golden_run.proofs.Settling.{source_apart}
use Rattle.golden_run.proofs.walk.walk_all.Goals.{then-evaluate_next, else-evaluate_next}
use Rattle.golden_run.proofs.walk.walk_all.Goals as goal

pub loop-place-preserved : goal.loop-place-preserved
loop-place-preserved c =
    let o = ordered_of c.args.wiring.now in
    let place = c.loop-place.place in
    let inv = c.loop-place.invariant in
    let lt : place < length o.order = omega (arith, c.loop-place-test.true) in
    record {
      few = elim c.if-evaluate_next.branch [
        | then-evaluate_next w ↦ omega (arith, w.changed-is, inv.few)
        | else-evaluate_next w ↦ omega (arith, w.changed-is, inv.few)
      ];
      count = c.evaluate_next.ensures.count ∙ inv.count;
      before = λ q less.
          elim (cases_eq q place) [
            | inl same ↦ subst (IsSettled o c.evaluate_next.new.row) (sym same) c.evaluate_next.ensures.evaluated.own
            | inr other ↦
                (let ahead : q < place = omega (arith, less, other) in
                c.evaluate_next.ensures.evaluated.before q ahead (inv.before q ahead))
          ];
      sources = λ n source.
          c.evaluate_next.ensures.evaluated.others n (λ e. source_apart o c.requires.wiring.program.sound c.requires.wiring.program.ordered place n lt source (sym e))
          ∙ inv.sources n source;
    }
