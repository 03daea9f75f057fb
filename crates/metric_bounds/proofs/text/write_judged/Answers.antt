use Rattle.std.proofs.lemmas.Result.{err_from_is_err_and}
use Rattle.fm_shelf.proofs.Sending.{sends_stop, sends_then}
use Rattle.metric_bounds.specs.Steps.{judged_lines}
use Rattle.metric_bounds.proofs.text.write_judged.Goals as goal

pub returns-in_err-write_part : goal.returns-in_err-write_part
unfolding judged_lines
returns-in_err-write_part g c =
    let p = err_from_is_err_and c.from_residual.result c.from_residual.ensures.1 in
    rw p.1 (sends_stop _ p.0 (sends_stop _ p.0 c.in_err-write_part.ensures))

pub returns-in_err-write_part-2 : goal.returns-in_err-write_part-2
unfolding judged_lines
returns-in_err-write_part-2 g c =
    let p = err_from_is_err_and c.from_residual-in_err-write_part-2.result c.from_residual-in_err-write_part-2.ensures.1 in
    rw p.1 (sends_stop _ p.0 (sends_then c.in_ok-write_part.ensures c.in_err-write_part-2.ensures))

pub returns : goal.returns
unfolding judged_lines
returns g c = sends_then (sends_then c.in_ok-write_part.ensures c.in_ok-write_part-2.ensures) c.write_part-3.ensures
