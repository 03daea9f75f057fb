use Rattle.std.proofs.Common.{◌≡◌, ◌<◌, length, ap, ◌∙◌, arith}
use Rattle.std.specs.List.{flat_map}
use Rattle.std.proofs.lemmas.Result.{err_from_is_err_and}
use Rattle.fm_base.specs.Lists.{below}
use Rattle.campaign_plan.specs.Analysis.{fault_count}
use Rattle.fm_shelf.proofs.Sending.{sends_as, sends_no_number, sends_number, sends_number_torn}
use Rattle.campaign_tables.proofs.Keeping.{row_by_table}
use Rattle.campaign_tables.proofs.faults.write_rows.Goals as goal

pub loop-i-init : goal.loop-i-init
loop-i-init g c = sends_no_number (row_by_table c.args.plan.now c.args.table.now) _

pub loop-i-preserved : goal.loop-i-preserved
loop-i-preserved g c =
    sends_number (row_by_table c.args.plan.now c.args.table.now) c.loop-i.i c.loop-i.invariant c.in_ok-write_if_kept.ensures

pub returns-in_err-write_if_kept : goal.returns-in_err-write_if_kept
returns-in_err-write_if_kept g c =
    let p = err_from_is_err_and c.from_residual.result c.from_residual.ensures.1 in
    let plan = c.args.plan.now in
    let count : c.len-i-end.result ≡ fault_count plan = c.len-i-end.ensures.count ∙ ap length c.faults.ensures.value in
    let lt : c.loop-i.i < fault_count plan = omega (arith, count, c.loop-i-test.true) in
    rw p.1 (sends_number_torn (row_by_table plan c.args.table.now) (fault_count plan) c.loop-i.i p.0 lt c.loop-i.invariant c.in_err-write_if_kept.ensures)

pub returns : goal.returns
returns g c =
    let plan = c.args.plan.now in
    let count : c.len-i-end.result ≡ fault_count plan = c.len-i-end.ensures.count ∙ ap length c.faults.ensures.value in
    let end : c.loop-i.i ≡ fault_count plan = omega (arith, count, c.loop-i-test.false, c.loop-i.auto.i-end) in
    sends_as (ap (λ n. flat_map (row_by_table plan c.args.table.now) (below n)) end) c.loop-i.invariant
