use Rattle.std.proofs.Common.{◌∙◌, ap, sym, length, map}
use Rattle.campaign_plan.specs.Analysis.{batch_count}
use Rattle.result_file.specs.KeptRows.{entry_of}
use Rattle.result_merge.specs.Tables.{Table, difference}
use Rattle.result_merge.proofs.Tabling.{length-table}
use Rattle.result_merge.proofs.Differing.{refused, gives_rows}
use Rattle.result_merge.proofs.merge.merge_rows.Goals as goal

pub first_difference-requires : goal.first_difference-requires
first_difference-requires c = (
  ap (λ (t : Table). length t) c.in_ok-firsts.ensures ∙ length-table (batch_count c.args.plan.now) (map entry_of c.args.first.now) ∙ sym c.batches.ensures.count,
  ap (λ (t : Table). length t) c.in_ok-seconds.ensures ∙ length-table (batch_count c.args.plan.now) (map entry_of c.args.second.now) ∙ sym c.batches.ensures.count,
)

pub returns-in-Some : goal.returns-in-Some
returns-in-Some c =
    refused c.args.plan.now c.args.first.now c.args.second.now c.in_ok-firsts.firsts c.in_ok-seconds.seconds c.in-Some.refusal c.in_ok-firsts.ensures c.in_ok-seconds.ensures
    (sym c.in-Some.is ∙ c.first_difference.ensures ∙ ap (λ n. difference n c.in_ok-firsts.firsts c.in_ok-seconds.seconds) c.batches.ensures.count)

pub rows_of-requires : goal.rows_of-requires
rows_of-requires c = (
  ap (λ (t : Table). length t) c.in_ok-firsts.ensures ∙ length-table (batch_count c.args.plan.now) (map entry_of c.args.first.now),
  ap (λ (t : Table). length t) c.in_ok-seconds.ensures ∙ length-table (batch_count c.args.plan.now) (map entry_of c.args.second.now),
)

pub returns : goal.returns
returns c =
    gives_rows c.args.plan.now c.args.first.now c.args.second.now c.in_ok-firsts.firsts c.in_ok-seconds.seconds c.in_ok-rows_of.field-0 c.in_ok-firsts.ensures c.in_ok-seconds.ensures
    (sym c.in_default.is ∙ c.first_difference.ensures ∙ ap (λ n. difference n c.in_ok-firsts.firsts c.in_ok-seconds.seconds) c.batches.ensures.count) c.in_ok-rows_of.ensures
