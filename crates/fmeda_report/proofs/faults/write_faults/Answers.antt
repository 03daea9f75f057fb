use Rattle.std.proofs.Common.{◌≡◌, ◌<◌, length, ap, ◌∙◌, arith}
use Rattle.std.specs.List.{flat_map}
use Rattle.std.proofs.lemmas.Result.{err_from_is_err_and}
use Rattle.fm_base.specs.Lists.{below}
use Rattle.campaign_plan.specs.Analysis.{fault_count}
use Rattle.fmeda_report.specs.Report.{fault_line}
use Rattle.fmeda_report.specs.Tallies.{planes_in_order}
use Rattle.fm_shelf.proofs.Sending.{sends_as, sends_no_number, sends_number, sends_number_torn}
use Rattle.fmeda_report.proofs.faults.write_faults.Goals as goal

pub loop-i-init : goal.loop-i-init
loop-i-init g c = sends_no_number (fault_line c.args.plan.now (planes_in_order c.args.planes.now)) _

pub loop-i-preserved : goal.loop-i-preserved
loop-i-preserved g c =
    sends_number (fault_line c.args.plan.now (planes_in_order c.args.planes.now)) c.loop-i.i c.loop-i.invariant c.in_ok-write_fault.ensures

pub returns-in_err-write_fault : goal.returns-in_err-write_fault
returns-in_err-write_fault g c =
    let p = err_from_is_err_and c.from_residual.result c.from_residual.ensures.1 in
    let plan = c.args.plan.now in
    let count : c.len-i-end.result ≡ fault_count plan = c.len-i-end.ensures.count ∙ ap length c.faults.ensures.value in
    let lt : c.loop-i.i < fault_count plan = omega (arith, count, c.loop-i-test.true) in
    rw p.1 (sends_number_torn (fault_line plan (planes_in_order c.args.planes.now)) (fault_count plan) c.loop-i.i p.0 lt c.loop-i.invariant c.in_err-write_fault.ensures)

pub returns : goal.returns
returns g c =
    let plan = c.args.plan.now in
    let count : c.len-i-end.result ≡ fault_count plan = c.len-i-end.ensures.count ∙ ap length c.faults.ensures.value in
    let end : c.loop-i.i ≡ fault_count plan = omega (arith, count, c.loop-i-test.false, c.loop-i.auto.i-end) in
    sends_as (ap (λ n. flat_map (fault_line plan (planes_in_order c.args.planes.now)) (below n)) end) c.loop-i.invariant
