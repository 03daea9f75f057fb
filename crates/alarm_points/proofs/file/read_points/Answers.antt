use Rattle.std.proofs.Common.{◌∙◌, [], length, sym, subst, refl, ap, arith}
use Rattle.std.specs.Prelude.{Result, Err}
use Rattle.std.proofs.lemmas.Result.{err_from_is_err_and}
use Rattle.fm_base.specs.Answers.{Gives}
use Rattle.alarm_points.specs.declared.Points.{Points}
use Rattle.alarm_points.specs.declared.PointsKind.{PointsKind}
use Rattle.csv_rows.specs.declared.FaultyRow.{FaultyRow}
use Rattle.csv_rows.specs.Rows.{rows_of}
use Rattle.alarm_points.proofs.FileRows.{gives_file}
use Rattle.alarm_points.proofs.Fits.{answer_fits}
use Rattle.alarm_points.proofs.Whole.{begun, gives_points, header_refused, passed_on}
use Rattle.alarm_points.specs.PointsSteps.{points_of_rows}
use Rattle.alarm_points.proofs.file.read_points.Goals as goal

-- the header is refused
pub returns-in_err-header-clause-answers : goal.returns-in_err-header-clause-answers
returns-in_err-header-clause-answers c =
    let p = err_from_is_err_and c.from_residual.result c.from_residual.ensures.1 in
    gives_file c.args.net.now c.args.bytes.now c.from_residual.result
    (header_refused c.args.net.now c.args.bytes.now c.new-rows.result c.read_header.new.rows c.in_err-header.field-0.0 c.from_residual.result c.new-rows.ensures c.in_err-header.ensures
    (p.1 ∙ ap Err p.2))

-- a row is refused
pub returns-in_err-list_rows-clause-answers : goal.returns-in_err-list_rows-clause-answers
returns-in_err-list_rows-clause-answers c =
    let p = err_from_is_err_and c.from_residual-in_err-list_rows.result c.from_residual-in_err-list_rows.ensures.1 in
    let halfway = begun c.args.net.now c.args.bytes.now c.in_ok-header.header c.in_ok-listed.listed c.new-rows.result c.read_header.new.rows c.new-rows.ensures c.in_ok-header.ensures
    c.in_ok-listed.ensures.lists in
    gives_file c.args.net.now c.args.bytes.now c.from_residual-in_err-list_rows.result
    (passed_on (points_of_rows c.args.net.now (rows_of c.args.bytes.now)) c.in_err-list_rows.field-0.0 c.from_residual-in_err-list_rows.result
    (c.in_err-list_rows.ensures c.args.net.now c.args.bytes.now halfway) (p.1 ∙ ap Err p.2))

pub list_rows-requires-clause-nets : goal.list_rows-requires-clause-nets
list_rows-requires-clause-nets c = c.in_ok-listed.ensures.lists.few_nets

pub list_rows-requires-clause-rows : goal.list_rows-requires-clause-rows
list_rows-requires-clause-rows c = omega (arith, ap length c.in_ok-listed.ensures.lists.rows_are)

pub finish-requires : goal.finish-requires
finish-requires c =
    let halfway = begun c.args.net.now c.args.bytes.now c.in_ok-header.header c.in_ok-listed.listed c.new-rows.result c.read_header.new.rows c.new-rows.ensures c.in_ok-header.ensures
    c.in_ok-listed.ensures.lists in
    (c.in_ok-list_rows.ensures c.args.net.now c.args.bytes.now halfway).listed.few_nets

-- no row is left
pub returns-clause-answers : goal.returns-clause-answers
returns-clause-answers c =
    let halfway = begun c.args.net.now c.args.bytes.now c.in_ok-header.header c.in_ok-listed.listed c.new-rows.result c.read_header.new.rows c.new-rows.ensures c.in_ok-header.ensures
    c.in_ok-listed.ensures.lists in
    let whole = c.in_ok-list_rows.ensures c.args.net.now c.args.bytes.now halfway in
    let given = λ (expected : Result Points (FaultyRow PointsKind)). Gives expected c.finish.result in
    gives_file c.args.net.now c.args.bytes.now c.finish.result
    (subst given (sym (gives_points c.args.net.now c.args.bytes.now c.list_rows.new.listed [] whole refl)) (c.finish.ensures c.args.net.now whole.listed.nets))

pub returns-clause-sound : goal.returns-clause-sound
returns-clause-sound c =
    answer_fits c.args.net.now c.args.bytes.now c.finish.result c.in_ok-listed.ensures.sound (returns-clause-answers c)
