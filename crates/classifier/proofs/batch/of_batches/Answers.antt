use Rattle.std.proofs.Common.{◌≡◌, ◌≢◌, ◌<◌, ℕ, [], length, refl, ap, sym, ◌∙◌, subst, arith, get_or-set_other, length-set}
use Rattle.campaign_plan.specs.declared.Outcome.{Outcome}
use Rattle.classifier.specs.Batch.{alone_in, batch_at, outcome_for}
use Rattle.classifier.specs.Planes.{HasPlanes, outcome_at}
use Rattle.classifier.proofs.EachWord.{each_set_one}
use Rattle.classifier.proofs.batch.of_batches.Goals as goal

pub loop-word-preserved : goal.loop-word-preserved
loop-word-preserved c =
    let i = c.loop-word.word in
    let outcomes = c.loop-word.outcomes in
    let inv = c.loop-word.invariant in
    let new = c.of_batch.result in
    let none : Outcome = outcome_at [] 0 in
    let inside : i < length outcomes = omega (arith, c.loop-word-test.true, inv.count) in
    record {
      count = length-set outcomes i new ∙ inv.count;
      done = λ circuit points ftti runs word lanes lt same has.
          each_set_one (λ j o. j ≡ word → o ≡ outcome_for circuit points ftti runs c.args.faults.now (batch_at c.args.batches.now word)) outcomes i new none inside
          (λ here.
          c.of_batch.ensures circuit points ftti runs lanes
          (subst (λ w. (k : ℕ) → k < 64 → lanes k ≡ alone_in c.args.faults.now (batch_at c.args.batches.now w) k) (sym here) same)
          (subst (HasPlanes circuit points ftti runs lanes) (sym (inv.left i (omega arith)))
          (subst (λ w. HasPlanes circuit points ftti runs lanes (outcome_at c.args.outcomes.now w)) (sym here) has))
          ∙ ap (λ w. outcome_for circuit points ftti runs c.args.faults.now (batch_at c.args.batches.now w)) here)
          word
          (λ apart here. let early : word < i = omega (arith, apart, lt) in inv.done circuit points ftti runs word lanes early same has) refl;
      left = λ word le.
          let apart : word ≢ i = omega (arith, le) in
          get_or-set_other outcomes i word new none apart ∙ inv.left word (omega (arith, le));
    }

pub returns : goal.returns
returns c = λ circuit points ftti runs word lanes lt same has.
    let done : word < c.loop-word.word = omega (arith, lt, c.loop-word-test.false) in
    c.loop-word.invariant.done circuit points ftti runs word lanes done same has
