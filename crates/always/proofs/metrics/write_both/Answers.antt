use Rattle.std.proofs.Common.{ap}
use Rattle.std.specs.Prelude.{codes}
use Rattle.std.proofs.lemmas.Result.{err_from_is_err_and}
use Rattle.metric_sums.specs.Metrics.{spfm_target}
use Rattle.fm_shelf.proofs.Sending.{sends_as, sends_stop, sends_then}
use Rattle.always.specs.Text.{least_line, least_lines}
use Rattle.always.proofs.metrics.write_both.Goals as goal

pub returns-in_err-write_least : goal.returns-in_err-write_least
unfolding least_lines
returns-in_err-write_least g c =
    let p = err_from_is_err_and c.from_residual.result c.from_residual.ensures.1 in
    rw p.1 (sends_stop _ p.0 (sends_as (ap (least_line (codes "permanent") c.args.since (spfm_target c.args.asil)) c.spfm_permanent.ensures) c.in_err-write_least.ensures))

pub returns : goal.returns
unfolding least_lines
returns g c =
    sends_then (sends_as (ap (least_line (codes "permanent") c.args.since (spfm_target c.args.asil)) c.spfm_permanent.ensures) c.in_ok-write_least.ensures)
    (sends_as (ap (least_line (codes "transient") c.args.since (spfm_target c.args.asil)) c.spfm_transient.ensures) c.write_least-2.ensures)
