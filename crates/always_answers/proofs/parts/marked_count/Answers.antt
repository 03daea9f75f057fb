use Rattle.std.proofs.Common.{inl, inr, ℕ, Bool, ◌+◌, ◌&&◌, ◌==◌, slice_index, ap, sym, ◌∙◌, arith}
use Rattle.std.proofs.lemmas.Bool.{eq-eqb, ne_eqb}
use Rattle.circuit.specs.Value.{bit_at}
use Rattle.fm_base.proofs.Tests.{both_true}
use Rattle.always_answers.proofs.Picking.{and_no, counted_no, counted_none, counted_yes}
use Rattle.always_answers.proofs.parts.marked_count.Goals.{then-of_nets-n+then-marks-n, else-of_nets-n, else-of_nets-n-via-then-of_nets-n+else-marks-n, else-of_nets-n-via-else-of_nets-n}
use Rattle.always_answers.proofs.parts.marked_count.Goals as goal

pub loop-n-init : goal.loop-n-init
loop-n-init c = record {
  is = counted_none (λ net. (slice_index c.args.of_nets.now net == c.args.part) && bit_at c.args.marks.now net);
  few = omega arith;
}

pub loop-n-preserved : goal.loop-n-preserved
loop-n-preserved c =
    let test : ℕ → Bool = λ net. (slice_index c.args.of_nets.now net == c.args.part) && bit_at c.args.marks.now net in
    let n = c.loop-n.n in
    let inv = c.loop-n.invariant in
    elim c.if-of_nets-n.branch [
      | then-of_nets-n+then-marks-n w ↦ record {
        is = w.count-is ∙ ap (λ k. k + 1) inv.is ∙ sym (counted_yes test n (both_true (slice_index c.args.of_nets.now n == c.args.part) (bit_at c.args.marks.now n) (eq-eqb (slice_index c.args.of_nets.now n) c.args.part w.if-of_nets-n.true) w.if-marks-n.true));
        few = (let it = w.count-is in omega (arith, it, inv.few));
      }
      | else-of_nets-n w ↦ record {
        is = w.count-is ∙ inv.is ∙ sym (counted_no test n (and_no (slice_index c.args.of_nets.now n == c.args.part) (bit_at c.args.marks.now n) (elim w.else-of_nets-n.branch [
          | else-of_nets-n-via-then-of_nets-n+else-marks-n v ↦ inr v.if-marks-n.false
          | else-of_nets-n-via-else-of_nets-n v ↦ inl (ne_eqb (slice_index c.args.of_nets.now n) c.args.part v.if-of_nets-n.false)
        ])));
        few = (let it = w.count-is in omega (arith, it, inv.few));
      }
    ]
