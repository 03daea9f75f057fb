use Rattle.std.proofs.Common.{inl, inr, ap, sym, subst, ◌∙◌, arith}
use Rattle.std.proofs.lemmas.Bool.{cases_eq}
use Rattle.place_set.specs.Places.{has}
use Rattle.differential_kernel.specs.Cone.{IsUnread}
use Rattle.differential_kernel.proofs.cone.find_reads.Goals as goal

pub loop-n-preserved : goal.loop-n-preserved
loop-n-preserved c =
    let o = c.args.cycle.now.fanout.now in
    let nets = c.args.nets.now in
    let n = c.loop-n.n in
    record {
      bound = c.set_place.ensures.bound ∙ c.loop-n.invariant.bound;
      each = λ i lt none.
          elim (cases_eq i n) as (λ _. IsUnread o nets i) [
            | inl here ↦ subst (IsUnread o nets) (sym here) (c.is_read.ensures (sym c.set_place.ensures.here ∙ sym (ap (has c.set_place.new.set) here) ∙ none))
            | inr other ↦ c.loop-n.invariant.each i (omega (arith, lt, other)) (sym (c.set_place.ensures.others i other) ∙ none)
          ];
    }

pub returns-clause-each : goal.returns-clause-each
returns-clause-each c = λ n lt none. c.loop-n.invariant.each n (omega (arith, lt, c.loop-n-test.false, c.bound-n-end.ensures)) none
