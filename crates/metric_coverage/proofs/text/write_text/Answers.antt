use Rattle.std.proofs.Common.{◌∷◌, [], ◌++◌}
use Rattle.std.specs.Prelude.{codes}
use Rattle.std.specs.List.{flat_map}
use Rattle.std.proofs.lemmas.Result.{err_from_is_err_and}
use Rattle.fm_base.specs.Names.{Bytes}
use Rattle.fm_base.specs.Text.{line}
use Rattle.campaign_plan.specs.Analysis.{Analysis}
use Rattle.fm_shelf.proofs.Sending.{sends_as, sends_stop, sends_then}
use Rattle.metric_coverage.specs.Findings.{several}
use Rattle.metric_coverage.specs.Text.{goal_lines, unspoken_lines, whole_lines}
use Rattle.metric_coverage.proofs.Texts.{text_told}
use Rattle.metric_coverage.proofs.text.write_text.Goals as goal

-- what follows the title
abbrev readings : Analysis → Bytes
readings p = whole_lines p ++ flat_map (goal_lines p) (several p)

abbrev last : Bytes
last = line (codes "end" ∷ [])

pub returns-in_err-write_line : goal.returns-in_err-write_line
returns-in_err-write_line g c =
    let e = err_from_is_err_and c.from_residual.result c.from_residual.ensures.1 in
    let p = c.args.plan.now in
    rw e.1 (sends_as (text_told p) (sends_stop last e.0 (sends_stop (unspoken_lines p) e.0 (sends_stop (readings p) e.0 c.in_err-write_line.ensures))))

pub returns-in_err-write_readings : goal.returns-in_err-write_readings
returns-in_err-write_readings g c =
    let e = err_from_is_err_and c.from_residual-in_err-write_readings.result c.from_residual-in_err-write_readings.ensures.1 in
    let p = c.args.plan.now in
    rw e.1 (sends_as (text_told p) (sends_stop last e.0 (sends_stop (unspoken_lines p) e.0 (sends_then c.in_ok-write_line.ensures c.in_err-write_readings.ensures))))

pub returns-in_err-write_unspoken_faults : goal.returns-in_err-write_unspoken_faults
returns-in_err-write_unspoken_faults g c =
    let e = err_from_is_err_and c.from_residual-in_err-write_unspoken_faults.result c.from_residual-in_err-write_unspoken_faults.ensures.1 in
    let p = c.args.plan.now in
    rw e.1 (sends_as (text_told p) (sends_stop last e.0 (sends_then (sends_then c.in_ok-write_line.ensures c.in_ok-write_readings.ensures) c.in_err-write_unspoken_faults.ensures)))

pub returns : goal.returns
returns g c =
    sends_as (text_told c.args.plan.now)
    (sends_then (sends_then (sends_then c.in_ok-write_line.ensures c.in_ok-write_readings.ensures) c.in_ok-write_unspoken_faults.ensures) c.write_line-2.ensures)
