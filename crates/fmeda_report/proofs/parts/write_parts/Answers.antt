use Rattle.std.proofs.Common.{◌≡◌, ◌<◌, ap, arith}
use Rattle.std.specs.List.{flat_map}
use Rattle.std.proofs.lemmas.Result.{err_from_is_err_and}
use Rattle.fm_base.specs.Lists.{below}
use Rattle.campaign_plan.specs.Analysis.{part_count}
use Rattle.fmeda_report.specs.Report.{part_line}
use Rattle.fm_shelf.proofs.Sending.{sends_as, sends_no_number, sends_number, sends_number_torn}
use Rattle.fmeda_report.proofs.parts.write_parts.Goals as goal

pub loop-number-init : goal.loop-number-init
loop-number-init g c planes tallied = sends_no_number (part_line c.args.plan.now planes) _

pub loop-number-preserved : goal.loop-number-preserved
loop-number-preserved g c planes tallied =
    let lt : c.loop-number.number < part_count c.args.plan.now = omega (arith, c.loop-number-test.true, c.parts-number-end.ensures.count) in
    sends_number (part_line c.args.plan.now planes) c.loop-number.number (c.loop-number.invariant planes tallied)
    (c.in_ok-write_part.ensures planes (tallied.each c.loop-number.number lt))

pub returns-in_err-write_part : goal.returns-in_err-write_part
returns-in_err-write_part g c planes tallied =
    let p = err_from_is_err_and c.from_residual.result c.from_residual.ensures.1 in
    let plan = c.args.plan.now in
    let lt : c.loop-number.number < part_count plan = omega (arith, c.loop-number-test.true, c.parts-number-end.ensures.count) in
    rw p.1 (sends_number_torn (part_line plan planes) (part_count plan) c.loop-number.number p.0 lt (c.loop-number.invariant planes tallied)
    (c.in_err-write_part.ensures planes (tallied.each c.loop-number.number lt)))

pub returns : goal.returns
returns g c planes tallied =
    let plan = c.args.plan.now in
    let end : c.loop-number.number ≡ part_count plan =
    omega (arith, c.loop-number-test.false, c.loop-number.auto.number-end, c.parts-number-end.ensures.count) in
    sends_as (ap (λ n. flat_map (part_line plan planes) (below n)) end) (c.loop-number.invariant planes tallied)
