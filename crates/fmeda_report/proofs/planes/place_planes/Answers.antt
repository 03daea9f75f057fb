use Rattle.std.proofs.Common.{◌∙◌, arith}
use Rattle.fmeda_report.proofs.Placing.{place_more, placed_all}
use Rattle.fmeda_report.proofs.planes.place_planes.Goals as goal

pub loop-row-preserved : goal.loop-row-preserved
loop-row-preserved c once k below =
    place_more c.args.rows.now c.loop-row.planes c.loop-row.row-index _ once c.loop-row-test.true c.requires c.loop-row.auto.planes
    (c.loop-row.invariant once) k below

pub returns : goal.returns
returns c p hold count batch =
    placed_all p c.args.rows.now c.loop-row.planes hold (c.loop-row.auto.planes ∙ count)
    (λ k lt. c.loop-row.invariant hold.distinct.once k (omega (arith, lt, c.loop-row-test.false))) batch
