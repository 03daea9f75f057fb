use Rattle.campaign_plan.specs.Analysis.{all_faults}
use Rattle.fault_list.specs.Faults.{fault_at}
use Rattle.fm_shelf.proofs.Sending.{sends_as}
use Rattle.latency_table.proofs.Rows.{row_is}
use Rattle.latency_table.proofs.table.write_fault.Goals as goal

pub returns : goal.returns
returns g c =
    let p = c.args.plan.now in
    let i = c.args.i in
    let laws = c.one_simulation_gives_all.ensures in
    sends_as (row_is p i c.excites_fault-excited.result c.latency_of.result.now c.requires.fault (laws.sightings p (fault_at (all_faults p) i)) (laws.interval p (fault_at (all_faults p) i)) c.excites_fault-excited.ensures c.latency_of.ensures)
    c.write_row.ensures
