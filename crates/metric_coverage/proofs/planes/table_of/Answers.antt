use Rattle.std.proofs.Common.{◌≡◌, ◌∙◌, arith}
use Rattle.campaign_plan.specs.Analysis.{Analysis, batch_count}
use Rattle.reading_planes.specs.Folded.{reading_at}
use Rattle.reading_planes.specs.Readings.{plan_by}
use Rattle.metric_coverage.proofs.Ordering.{all_planes}
use Rattle.metric_coverage.proofs.planes.table_of.Goals as goal

pub returns : goal.returns
returns c =
    let p = c.args.plan.now in
    let q : Analysis = plan_by p (reading_at c.args.readings.now c.args.reading) in
    let inv = c.loop-batch.invariant in
    let end : c.loop-batch.batch ≡ batch_count p = omega (arith, c.loop-batch-test.false, c.loop-batch.auto.batch-end, c.batches-batch-end.ensures.count) in
    record {
      count = inv.count ∙ end;
      planes = all_planes q c.loop-batch.planes.items (inv.count ∙ end) (λ b lt. inv.each b (omega (arith, lt, end)));
    }
