use Rattle.std.proofs.Common.{◌++◌, ◌∙◌}
use Rattle.std.proofs.lemmas.Result.{err_from_is_err_and}
use Rattle.fm_shelf.proofs.Sending.{sends_as, sends_stop, sends_then}
use Rattle.refusals.specs.Steps.{faults_line, netlist_line, points_line, rates_line, workload_line}
use Rattle.refusals.proofs.CheckText.{check_is}
use Rattle.refusals.proofs.check_text.write_check.Goals as goal

pub returns-in_err-write_netlist : goal.returns-in_err-write_netlist
returns-in_err-write_netlist g c =
    let p = err_from_is_err_and c.from_residual.result c.from_residual.ensures.1 in
    rw p.1 (sends_as ((λ j. netlist_line (c.net.ensures.value j) ++ (workload_line c.args.plan.now.runs ++ (rates_line c.args.plan.now.rates ++ (points_line c.args.plan.now.points ++ (faults_line c.args.plan.now))))) ∙ check_is c.args.plan.now)
    (sends_stop (workload_line c.args.plan.now.runs ++ (rates_line c.args.plan.now.rates ++ (points_line c.args.plan.now.points ++ (faults_line c.args.plan.now)))) _ c.in_err-write_netlist.ensures))

pub returns-in_err-write_workload : goal.returns-in_err-write_workload
returns-in_err-write_workload g c =
    let p = err_from_is_err_and c.from_residual-in_err-write_workload.result c.from_residual-in_err-write_workload.ensures.1 in
    rw p.1 (sends_as ((λ j. netlist_line (c.net.ensures.value j) ++ (workload_line (c.work.ensures.value j) ++ (rates_line c.args.plan.now.rates ++ (points_line c.args.plan.now.points ++ (faults_line c.args.plan.now))))) ∙ check_is c.args.plan.now)
    (sends_then c.in_ok-write_netlist.ensures (sends_stop (rates_line c.args.plan.now.rates ++ (points_line c.args.plan.now.points ++ (faults_line c.args.plan.now))) _ c.in_err-write_workload.ensures)))

pub returns-in_err-write_rates : goal.returns-in_err-write_rates
returns-in_err-write_rates g c =
    let p = err_from_is_err_and c.from_residual-in_err-write_rates.result c.from_residual-in_err-write_rates.ensures.1 in
    rw p.1 (sends_as ((λ j. netlist_line (c.net.ensures.value j) ++ (workload_line (c.work.ensures.value j) ++ (rates_line c.args.plan.now.rates ++ (points_line c.args.plan.now.points ++ (faults_line c.args.plan.now))))) ∙ check_is c.args.plan.now)
    (sends_then c.in_ok-write_netlist.ensures (sends_then c.in_ok-write_workload.ensures (sends_stop (points_line c.args.plan.now.points ++ (faults_line c.args.plan.now)) _ c.in_err-write_rates.ensures))))

pub returns-in_err-write_points : goal.returns-in_err-write_points
returns-in_err-write_points g c =
    let p = err_from_is_err_and c.from_residual-in_err-write_points.result c.from_residual-in_err-write_points.ensures.1 in
    rw p.1 (sends_as ((λ j. netlist_line (c.net.ensures.value j) ++ (workload_line (c.work.ensures.value j) ++ (rates_line c.args.plan.now.rates ++ (points_line (c.points.ensures.value j) ++ (faults_line c.args.plan.now))))) ∙ check_is c.args.plan.now)
    (sends_then c.in_ok-write_netlist.ensures (sends_then c.in_ok-write_workload.ensures (sends_then c.in_ok-write_rates.ensures (sends_stop (faults_line c.args.plan.now) _ c.in_err-write_points.ensures)))))

pub returns : goal.returns
returns g c =
    sends_as ((λ j. netlist_line (c.net.ensures.value j) ++ (workload_line (c.work.ensures.value j) ++ (rates_line c.args.plan.now.rates ++ (points_line (c.points.ensures.value j) ++ (faults_line c.args.plan.now))))) ∙ check_is c.args.plan.now)
    (sends_then c.in_ok-write_netlist.ensures (sends_then c.in_ok-write_workload.ensures (sends_then c.in_ok-write_rates.ensures (sends_then c.in_ok-write_points.ensures c.write_faults.ensures))))
