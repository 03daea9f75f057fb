use Rattle.std.proofs.Common.{ap, sym, subst, arith, take_all}
use Rattle.std.specs.List.{flat_map}
use Rattle.std.proofs.lemmas.Result.{err_from_is_err_and}
use Rattle.metric_sums.specs.declared.Sums.{Sums}
use Rattle.metric_sums.specs.Totals.{AreConsistent}
use Rattle.fm_shelf.proofs.Sending.{sends_as, sends_more, sends_none, sends_torn}
use Rattle.reading_planes.specs.Folded.{reading_at}
use Rattle.reading_planes.specs.declared.reading.Reading.TheVariants.{Whole}
use Rattle.metric_breakdown.specs.Text.{lines_by, reading_lines}
use Rattle.metric_breakdown.proofs.Adding.{reading_consistent}
use Rattle.metric_breakdown.proofs.text.write_readings.Goals as goal

pub write_lines-requires-clause-sums : goal.write_lines-requires-clause-sums
write_lines-requires-clause-sums g c =
    let p = c.args.plan.now in
    let r = c.loop-r.r in
    subst AreConsistent (sym (c.requires.sums.each r c.loop-r-test.true)) (reading_consistent p c.requires.plan (reading_at c.args.readings.now r))

pub loop-r-init : goal.loop-r-init
loop-r-init g c = sends_none _

pub loop-r-preserved : goal.loop-r-preserved
loop-r-preserved g c =
    let p = c.args.plan.now in
    let r = c.loop-r.r in
    sends_more (lines_by p) c.args.readings.now r Whole c.loop-r-test.true c.loop-r.invariant
    (sends_as (ap (λ (s : Sums). reading_lines p (reading_at c.args.readings.now r) s) (c.requires.sums.each r c.loop-r-test.true)) c.in_ok-write_lines.ensures)

pub returns-in_err-write_lines : goal.returns-in_err-write_lines
returns-in_err-write_lines g c =
    let p = c.args.plan.now in
    let r = c.loop-r.r in
    let e = err_from_is_err_and c.from_residual.result c.from_residual.ensures.1 in
    rw e.1 (sends_torn (lines_by p) c.args.readings.now r Whole c.loop-r-test.true e.0 c.loop-r.invariant
    (sends_as (ap (λ (s : Sums). reading_lines p (reading_at c.args.readings.now r) s) (c.requires.sums.each r c.loop-r-test.true)) c.in_err-write_lines.ensures))

pub returns : goal.returns
returns g c =
    let p = c.args.plan.now in
    let readings = c.args.readings.now in
    sends_as (ap (flat_map (lines_by p)) (take_all c.loop-r.r readings (omega (arith, c.loop-r-test.false)))) c.loop-r.invariant
