use Rattle.std.proofs.Common.{◌≡◌, ◌≢◌, ◌<◌, ℕ, List, length, set, ◌∙◌, arith, below_more, get_or-set_other, get_or-set_same}
use Rattle.std.proofs.lemmas.List.{length-set}
use Rattle.campaign_plan.specs.declared.Outcome.{Outcome}
use Rattle.campaign_plan.specs.Batches.{true_planes}
use Rattle.classifier.specs.Planes.{outcome_at}
use Rattle.reading_planes.specs.Folded.{reading_at}
use Rattle.reading_planes.specs.Readings.{plan_by}
use Rattle.metric_coverage.proofs.Loading.{true_of}
use Rattle.metric_coverage.proofs.worker.keep_batch.Goals as goal

pub loop-r-preserved : goal.loop-r-preserved
loop-r-preserved c =
    let p = c.args.plan.now in
    let readings = c.args.readings.now in
    let batch = c.args.batch in
    let r : ℕ = c.loop-r.r in
    let kept : List Outcome = c.loop-r.kept in
    let new : Outcome = c.of_batch.result in
    let none : Outcome = record { danger = 0; noticed = 0 } in
    let inv = c.loop-r.invariant in
    let small : r < length readings = c.loop-r-test.true in
    let inside : r < length kept = omega (arith, small, inv.count) in
    record {
      count = length-set kept r new ∙ inv.count;
      each = λ m lt.
          below_more (λ (k : ℕ). outcome_at (set kept r new) k ≡ true_planes (plan_by p (reading_at readings k)) batch) r
          (λ k early. let apart : k ≢ r = omega (arith, early) in get_or-set_other kept r k new none apart ∙ inv.each k early)
          (get_or-set_same kept r new none inside
          ∙ true_of p (reading_at readings r) batch c.faults.result.now c.faults.ensures.value (outcome_at c.args.found.now r) new c.of_batch.ensures (c.requires.shown.each r small)) m lt;
    }
