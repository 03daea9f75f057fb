use Rattle.std.proofs.lemmas.Result.{err_from_is_err_and}
use Rattle.fm_shelf.proofs.Sending.{sends_stop, sends_then}
use Rattle.always.proofs.text.write_all_metrics.Goals as goal

pub returns-in_err-write_metrics : goal.returns-in_err-write_metrics
returns-in_err-write_metrics g c =
    let e = err_from_is_err_and c.from_residual.result c.from_residual.ensures.1 in
    rw e.1 (sends_stop _ e.0 c.in_err-write_metrics.ensures)

pub returns : goal.returns
returns g c = sends_then c.in_ok-write_metrics.ensures c.write_metrics-2.ensures
