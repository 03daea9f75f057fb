use Rattle.std.proofs.Common.{◌<◌, length, sym, subst, ◌∙◌, arith}
use Rattle.counterexamples.specs.Contradicted.{MarksContradicted}
use Rattle.counterexamples.proofs.Loading.{mark_one}
use Rattle.counterexamples.proofs.faults.mark.Goals as goal
use Rattle.counterexamples.proofs.faults.mark.Goals.{then-get, else-get}

pub loop-k-preserved : goal.loop-k-preserved
loop-k-preserved c = record {
  size = omega arith;
  marks = λ own p faults loads loaded contradicted old. (
      let k = c.loop-k.k in
      let batch = c.args.batch.now in
      let within : k < length batch = omega arith in
      let few : k < 63 = (let most = c.requires.few in omega (arith, within, most)) in
      let before = c.loop-k.invariant.marks own p faults loads loaded contradicted old in
      elim c.if-get.branch as (λ _. MarksContradicted own p faults c.if-get.marks) [
        | then-get w ↦ subst (MarksContradicted own p faults) (sym w.marks-is)
            (mark_one own p faults batch loads c.args.found k c.loop-k.marks loaded contradicted within few (sym c.get.ensures ∙ w.if-get.true) before)
        | else-get w ↦ subst (MarksContradicted own p faults) (sym w.marks-is) before
      ]);
}
