use Rattle.std.proofs.Common.{inl, inr, ◌<◌, length, sym, subst, ◌∙◌, arith}
use Rattle.std.proofs.lemmas.Bool.{cases_eq, cases_lt}
use Rattle.golden_run.specs.Events.{IsSettled, ordered_of}
use Rattle.golden_run.proofs.Settling.{source_apart}
use Rattle.golden_run.proofs.walk.walk.Goals as goal

pub places-preserved : goal.places-preserved
places-preserved c =
    let o = ordered_of c.args.wiring.now in
    let from = c.places.from in
    let p = c.in-Some.place in
    let found = c.in-Some.ensures in
    let inv = c.places.invariant in
    let lt : p < length o.order = omega (arith, found.1, inv.values.sizes.marks) in
    record {
      within = omega (arith, lt);
      few = omega (arith, found.0, inv.few);
      values = c.evaluate.ensures.values;
      marked = c.evaluate.ensures.all ∙ inv.marked;
      before = λ q less.
          elim (cases_eq q p) [
            | inl same ↦ subst (IsSettled o c.evaluate.new.values.row.items) (sym same) c.evaluate.ensures.evaluated.own
            | inr other ↦
                (let ahead : q < p = omega (arith, less, other) in
                c.evaluate.ensures.evaluated.before q ahead
                (elim (cases_lt q from) [
                  | inl done ↦ inv.before q done
                  | inr most ↦ inv.values.settled q (omega (arith, ahead, lt)) inv.marked (found.3 q most ahead)
                ]))
          ];
      sources = λ n source.
          c.evaluate.ensures.evaluated.others n (λ e. source_apart o c.requires.wiring.program.sound c.requires.wiring.program.ordered p n lt source (sym e))
          ∙ inv.sources n source;
    }

pub returns-clause-settled : goal.returns-clause-settled
returns-clause-settled c = λ q lt.
    elim (cases_lt q c.places.from) [
      | inl done ↦ c.places.invariant.before q done
      | inr most ↦ c.places.invariant.values.settled q lt c.places.invariant.marked (c.in_default.ensures q most)
    ]
