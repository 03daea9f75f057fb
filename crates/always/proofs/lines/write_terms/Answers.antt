use Rattle.std.proofs.lemmas.Result.{err_from_is_err_and}
use Rattle.fm_shelf.proofs.Sending.{sends_as, sends_stop, sends_then}
use Rattle.always.specs.Asked.{terms_of}
use Rattle.always.specs.Text.{assumes_line, window_line}
use Rattle.always.proofs.Telling.{terms_are}
use Rattle.always.proofs.lines.write_terms.Goals as goal

pub returns-in_err-write_all_held : goal.returns-in_err-write_all_held
returns-in_err-write_all_held g c =
    let e = err_from_is_err_and c.from_residual.result c.from_residual.ensures.1 in
    let asked = c.args.asked.now in
    rw e.1 (sends_as (terms_are c.args.net.now (terms_of asked)) (sends_stop (assumes_line asked.from) e.0 (sends_stop (window_line asked.window asked.ahead) e.0 c.in_err-write_all_held.ensures)))

pub returns-in_err-write_window : goal.returns-in_err-write_window
returns-in_err-write_window g c =
    let e = err_from_is_err_and c.from_residual-in_err-write_window.result c.from_residual-in_err-write_window.ensures.1 in
    let asked = c.args.asked.now in
    rw e.1 (sends_as (terms_are c.args.net.now (terms_of asked)) (sends_stop (assumes_line asked.from) e.0 (sends_then c.in_ok-write_all_held.ensures c.in_err-write_window.ensures)))

pub returns : goal.returns
returns g c =
    sends_as (terms_are c.args.net.now (terms_of c.args.asked.now)) (sends_then (sends_then c.in_ok-write_all_held.ensures c.in_ok-write_window.ensures) c.write_assumed.ensures)
