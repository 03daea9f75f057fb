use Rattle.std.proofs.Common.{◌∙◌, ap, map, length}
use Rattle.campaign_plan.specs.Analysis.{batch_count}
use Rattle.result_file.specs.KeptRows.{entry_of}
use Rattle.result_merge.proofs.Tabling.{length-table}
use Rattle.fmeda_top.proofs.kept.tell_faults.Goals as goal

pub write_fault_table-requires : goal.write_fault_table-requires
write_fault_table-requires g c =
    ap length c.in_ok-table.ensures ∙ length-table (batch_count c.args.begun.now.planned.plan) (map entry_of c.as_slice-rows.result.now)
