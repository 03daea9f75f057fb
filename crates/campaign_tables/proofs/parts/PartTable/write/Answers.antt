use Rattle.std.proofs.lemmas.Result.{err_from_is_err_and}
use Rattle.fm_shelf.proofs.Sending.{sends_stop, sends_then}
use Rattle.campaign_tables.specs.PartTable.{part_table}
use Rattle.campaign_tables.specs.PartSteps.{unmatched_line}
use Rattle.campaign_tables.proofs.parts.PartTable.write.Goals as goal

pub returns-in_err-write_rows : goal.returns-in_err-write_rows
unfolding part_table unmatched_line
returns-in_err-write_rows g c =
    let p = err_from_is_err_and c.from_residual.result c.from_residual.ensures.1 in
    rw p.1 (sends_stop _ p.0 c.in_err-write_rows.ensures)

pub returns : goal.returns
unfolding part_table unmatched_line
returns g c = sends_then c.in_ok-write_rows.ensures c.write_unmatched.ensures
