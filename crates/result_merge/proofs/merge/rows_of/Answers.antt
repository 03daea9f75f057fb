use Rattle.std.proofs.Common.{◌≡◌, ◌<◌, ◌∙◌, ap, ap₂, sym, arith}
use Rattle.std.specs.Option.{option_or}
use Rattle.campaign_plan.specs.Analysis.{batch_count}
use Rattle.result_file.specs.ResultText.{result_rows}
use Rattle.result_merge.specs.Union.{rising}
use Rattle.result_merge.specs.Tables.{at_either}
use Rattle.result_merge.proofs.Rowing.{none_yet, one_less, one_more, sums_stay_small}
use Rattle.result_merge.proofs.merge.rows_of.Goals as goal

pub loop-batch-init : goal.loop-batch-init
loop-batch-init c = none_yet c.args.plan.now (at_either c.args.firsts.now c.args.seconds.now) c.new-rows.result c.none-sums.result c.new-rows.ensures c.none-sums.ensures

pub loop-batch-preserved-in_default : goal.loop-batch-preserved-in_default
loop-batch-preserved-in_default c =
    let had = sym (ap₂ option_or c.get.ensures c.get-in-loop-batch.ensures) ∙ sym c.or.ensures ∙ c.in_default.is in
    one_less c.args.plan.now (at_either c.args.firsts.now c.args.seconds.now) c.loop-batch.batch c.loop-batch.rows c.loop-batch.sums c.loop-batch.invariant had

pub plus-sums-requires : goal.plus-sums-requires
plus-sums-requires c =
    let lt : c.loop-batch.batch < batch_count c.args.plan.now = omega (arith, c.loop-batch-test.true, c.batches-batch-end.ensures.count) in
    let had = sym (ap₂ option_or c.get.ensures c.get-in-loop-batch.ensures) ∙ sym c.or.ensures ∙ c.in-Some.is in
    sums_stay_small c.args.plan.now c.batches-batch-end.ensures.plan (at_either c.args.firsts.now c.args.seconds.now) c.loop-batch.batch c.loop-batch.rows c.loop-batch.sums
    c.own_sums.result c.in-Some.planes c.loop-batch.invariant lt had c.own_sums.ensures

pub loop-batch-preserved : goal.loop-batch-preserved
loop-batch-preserved c =
    let had = sym (ap₂ option_or c.get.ensures c.get-in-loop-batch.ensures) ∙ sym c.or.ensures ∙ c.in-Some.is in
    one_more c.args.plan.now (at_either c.args.firsts.now c.args.seconds.now) c.loop-batch.batch c.loop-batch.rows c.push.new.self c.loop-batch.sums c.own_sums.result
    c.plus-sums.result c.in-Some.planes c.loop-batch.invariant had c.own_sums.ensures c.plus-sums.ensures c.in_ok-push.ensures.ok

pub returns : goal.returns
returns c =
    let end : c.loop-batch.batch ≡ batch_count c.args.plan.now = omega (arith, c.loop-batch-test.false, c.loop-batch.auto.batch-end, c.batches-batch-end.ensures.count) in
    c.loop-batch.invariant.rows_are ∙ ap (λ n. result_rows c.args.plan.now (rising n (at_either c.args.firsts.now c.args.seconds.now))) end
