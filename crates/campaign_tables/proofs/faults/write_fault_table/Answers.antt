use Rattle.std.specs.List.{flat_map}
use Rattle.std.proofs.lemmas.Result.{err_from_is_err_and}
use Rattle.fm_base.specs.Lists.{below}
use Rattle.campaign_plan.specs.Analysis.{fault_count}
use Rattle.fm_shelf.proofs.Sending.{sends_as, sends_stop, sends_then}
use Rattle.campaign_tables.proofs.Keeping.{row_by_table, table_is}
use Rattle.campaign_tables.proofs.faults.write_fault_table.Goals as goal

pub returns-in_err-write_columns : goal.returns-in_err-write_columns
returns-in_err-write_columns g c entries of =
    let p = err_from_is_err_and c.from_residual.result c.from_residual.ensures.1 in
    let plan = c.args.plan.now in
    rw p.1 (sends_as (table_is plan c.args.table.now entries of)
    (sends_stop (flat_map (row_by_table plan c.args.table.now) (below (fault_count plan))) p.0 c.in_err-write_columns.ensures))

pub returns : goal.returns
returns g c entries of = sends_as (table_is c.args.plan.now c.args.table.now entries of) (sends_then c.in_ok-write_columns.ensures c.write_rows.ensures)
