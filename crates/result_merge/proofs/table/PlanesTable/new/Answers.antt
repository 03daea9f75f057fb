use Rattle.std.proofs.Common.{◌≡◌, ◌∙◌, ap, arith, take, length}
use Rattle.std.proofs.lemmas.List.{take_all}
use Rattle.campaign_plan.specs.Analysis.{batch_count}
use Rattle.result_merge.proofs.Tabling.{had, place_more, batch_within, table_is}
use Rattle.result_merge.proofs.table.PlanesTable.new.Goals as goal

pub index_mut-requires : goal.index_mut-requires
index_mut-requires c =
    let less = batch_within c.args.rows.now (batch_count c.args.plan.now) c.requires.within c.loop-row.row-index c.loop-row-test.true in
    omega (arith, less, c.loop-row.invariant.len)

pub loop-row-preserved : goal.loop-row-preserved
loop-row-preserved c =
    let less = batch_within c.args.rows.now (batch_count c.args.plan.now) c.requires.within c.loop-row.row-index c.loop-row-test.true in
    let count : length c.loop-row.planes.items ≡ batch_count c.args.plan.now = omega (arith, c.loop-row.invariant.len, c.loop-row.planes.ok.0) in
    record {
      len = c.loop-row.invariant.len;
      has = place_more c.args.rows.now c.loop-row.planes.items c.loop-row.row-index (batch_count c.args.plan.now) c.requires.once c.loop-row-test.true less count c.loop-row.invariant.has;
    }

pub returns : goal.returns
returns c =
    let rows = c.args.rows.now in
    let count : length c.loop-row.planes.items ≡ batch_count c.args.plan.now = omega (arith, c.loop-row.invariant.len, c.loop-row.planes.ok.0) in
    let all : take c.loop-row.row-index rows ≡ rows = take_all c.loop-row.row-index rows c.loop-row-test.false in
    table_is (batch_count c.args.plan.now) _ c.loop-row.planes.items count (λ batch lt. c.loop-row.invariant.has batch lt ∙ ap (λ rs. had rs batch) all)
