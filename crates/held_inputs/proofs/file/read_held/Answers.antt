use Rattle.std.proofs.Common.{◌≡◌, ◌∙◌, List, map, sym, ap, subst}
use Rattle.std.specs.Prelude.{Ok, Err}
use Rattle.std.proofs.lemmas.Result.{err_from_is_err_and}
use Rattle.coverage_claim.specs.declared.parts.Held.{Held}
use Rattle.fm_base.specs.Answers.{Gives}
use Rattle.held_inputs.specs.HeldFile.{held_of, held_row}
use Rattle.held_inputs.specs.HeldKept.{AreHeldFor}
use Rattle.held_inputs.proofs.Whole.{begun, gives_held, header_refused}
use Rattle.held_inputs.proofs.file.read_held.Goals as goal

-- the header is refused
pub returns-in_err-read_header-clause-answers : goal.returns-in_err-read_header-clause-answers
returns-in_err-read_header-clause-answers c =
    let p = err_from_is_err_and c.from_residual.result c.from_residual.ensures.1 in
    header_refused c.args.net.now c.args.bytes.now c.new-rows.result c.read_header.new.rows c.in_err-read_header.field-0.0 c.from_residual.result c.new-rows.ensures
    c.in_err-read_header.ensures (p.1 ∙ ap Err p.2)

-- a row is refused
pub returns-in_err-list_rows-clause-answers : goal.returns-in_err-list_rows-clause-answers
returns-in_err-list_rows-clause-answers c =
    let p = err_from_is_err_and c.from_residual-in_err-list_rows.result c.from_residual-in_err-list_rows.ensures.1 in
    let head = c.in_ok-read_header.ensures in
    let halfway = begun c.args.net.now c.args.bytes.now c.new-rows.result c.new-listed.result c.read_header.new.rows c.new-rows.ensures c.new-listed.ensures head.0 head.1 head.2 in
    let own : Gives {T = List Held} (held_of c.args.net.now c.args.bytes.now) (Err c.in_err-list_rows.field-0.0) = c.in_err-list_rows.ensures c.args.bytes.now halfway in
    subst (Gives (held_of c.args.net.now c.args.bytes.now)) (sym (p.1 ∙ ap Err p.2)) own

-- no row is left
pub returns-clause-answers : goal.returns-clause-answers
returns-clause-answers c =
    let head = c.in_ok-read_header.ensures in
    let halfway = begun c.args.net.now c.args.bytes.now c.new-rows.result c.new-listed.result c.read_header.new.rows c.new-rows.ensures c.new-listed.ensures head.0 head.1 head.2 in
    let whole = c.in_ok-list_rows.ensures c.args.bytes.now halfway in
    gives_held c.args.net.now c.args.bytes.now c.list_rows.new.listed whole
    ∙ ap Ok (ap (map (held_row c.args.net.now)) (sym c.as_slice.ensures) ∙ sym c.in_ok-held_rows.ensures)

pub returns-clause-sound : goal.returns-clause-sound
returns-clause-sound c =
    let head = c.in_ok-read_header.ensures in
    let halfway = begun c.args.net.now c.args.bytes.now c.new-rows.result c.new-listed.result c.read_header.new.rows c.new-rows.ensures c.new-listed.ensures head.0 head.1 head.2 in
    let whole = c.in_ok-list_rows.ensures c.args.bytes.now halfway in
    subst (AreHeldFor c.args.net.now) (ap (map (held_row c.args.net.now)) (sym c.as_slice.ensures) ∙ sym c.in_ok-held_rows.ensures) whole.kept
