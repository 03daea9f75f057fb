use Rattle.std.proofs.Common.{ℕ, Bool, ap, ◌∙◌}
use Rattle.campaign_plan.specs.declared.Settings.{Settings}
use Rattle.campaign_plan.specs.Batches.{class_of_fault}
use Rattle.fmeda_report.specs.Tallies.{planes_in_order}
use Rattle.metric_sums.specs.declared.Class.{Class}
use Rattle.fm_shelf.proofs.Sending.{sends_as}
use Rattle.metric_coverage.specs.Freed.{evidence_at, free_by}
use Rattle.metric_coverage.specs.Text.{free_by_lines}
use Rattle.metric_coverage.proofs.Numbers.{free_told}
use Rattle.metric_coverage.proofs.metrics.write_free_lines.Goals as goal

pub returns : goal.returns
returns g c =
    let p = c.args.plan.now in
    let class : ℕ → Class = class_of_fault p (planes_in_order c.args.planes.now) in
    let free : ℕ → Bool = free_by c.args.free (evidence_at c.args.evidence.now) class in
    let asil = ap (λ (set : Settings). set.asil) c.settings.ensures.value in
    sends_as ((λ j. free_by_lines c.args.word.now (asil j) (c.free_amount-amount.ensures j) (c.free_sums-sums.ensures.sums j)) ∙ free_told p c.args.word.now free class)
    c.write_free.ensures
