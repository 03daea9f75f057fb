use Rattle.std.proofs.Common.{◌≡◌, ◌++◌, refl, codes}
use Rattle.std.specs.List.{flat_map}
use Rattle.std.proofs.lemmas.Result.{err_from_is_err_and}
use Rattle.fm_base.specs.Lists.{below}
use Rattle.fm_base.specs.Text.{whole_line}
use Rattle.campaign_plan.specs.Analysis.{Analysis, fault_count}
use Rattle.fm_shelf.proofs.Sending.{sends_as, sends_stop, sends_then}
use Rattle.readings.specs.Latencies.{latencies, latencies_with, latency_row, least_interval}
use Rattle.latency_table.proofs.table.write_table.Goals as goal

whole : (p : Analysis)
    → whole_line (codes "fault,part,class,weight,excited,reached_run,reached_cycle,alarm_run,alarm_cycle,alarm,interval")
    ++ flat_map (latency_row (least_interval p) p) (below (fault_count p)) ≡ latencies p
unfolding latencies_with
whole p = refl

pub returns-in_err-write_columns : goal.returns-in_err-write_columns
returns-in_err-write_columns g c =
    let p = err_from_is_err_and c.from_residual.result c.from_residual.ensures.1 in
    let plan = c.args.plan.now in
    rw p.1 (sends_as (whole plan) (sends_stop (flat_map (latency_row (least_interval plan) plan) (below (fault_count plan))) p.0 c.in_err-write_columns.ensures))

pub returns : goal.returns
returns g c = sends_as (whole c.args.plan.now) (sends_then c.in_ok-write_columns.ensures c.write_rows.ensures)
