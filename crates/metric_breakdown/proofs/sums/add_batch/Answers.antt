use Rattle.std.proofs.Common.{◌≡◌, ◌≢◌, ◌<◌, ℕ, List, length, set, ap₂, sym, ◌∙◌, subst, arith, below_more, get_or-set_other, get_or-set_same}
use Rattle.metric_sums.specs.declared.Sums.{Sums}
use Rattle.metric_sums.specs.Totals.{AreSmall, no_sums, plus}
use Rattle.campaign_plan.specs.Batches.{own_sums}
use Rattle.classifier.specs.Planes.{outcome_at}
use Rattle.metric_breakdown.specs.Text.{sums_at}
use Rattle.metric_breakdown.proofs.sums.add_batch.Goals as goal

pub plus-requires : goal.plus-requires
plus-requires c =
    let r = c.loop-r.r in
    let within : r < length c.args.sums.now = omega (arith, c.loop-r-test.true) in
    subst AreSmall (ap₂ plus (sym (c.loop-r.invariant.left r (omega arith))) (sym c.own_sums.ensures)) (c.requires.small r within)

pub loop-r-preserved : goal.loop-r-preserved
loop-r-preserved c =
    let r = c.loop-r.r in
    let sums : List Sums = c.loop-r.sums in
    let new : Sums = c.plus.result in
    let inv = c.loop-r.invariant in
    let inside : r < length sums = omega (arith, c.loop-r-test.true, c.loop-r.auto.sums) in
    record {
      done = λ m lt.
          below_more (λ (k : ℕ). sums_at (set sums r new) k ≡ plus (sums_at c.args.sums.now k) (own_sums c.args.plan.now c.args.batch (outcome_at c.args.found.now k))) r
          (λ k early. let apart : k ≢ r = omega (arith, early) in get_or-set_other sums r k new no_sums apart ∙ inv.done k early)
          (get_or-set_same sums r new no_sums inside ∙ c.plus.ensures ∙ ap₂ plus (inv.left r (omega arith)) c.own_sums.ensures) m lt;
      left = λ m le. let apart : m ≢ r = omega (arith, le) in get_or-set_other sums r m new no_sums apart ∙ inv.left m (omega (arith, le));
    }
