use Rattle.std.proofs.Common.{ap₂}
use Rattle.std.specs.Prelude.{codes}
use Rattle.std.proofs.lemmas.Result.{err_from_is_err_and}
use Rattle.fm_shelf.proofs.Sending.{sends_as, sends_stop, sends_then}
use Rattle.metric_coverage.specs.Text.{free_by_lines, ratio_line}
use Rattle.metric_coverage.proofs.metrics.write_free.Goals as goal

pub returns-in_err-write_amount : goal.returns-in_err-write_amount
unfolding free_by_lines
returns-in_err-write_amount g c =
    let p = err_from_is_err_and c.from_residual.result c.from_residual.ensures.1 in
    rw p.1 (sends_stop _ p.0 (sends_stop _ p.0 (sends_stop _ p.0 (sends_stop _ p.0 c.in_err-write_amount.ensures))))

pub returns-in_err-write_ratio : goal.returns-in_err-write_ratio
unfolding free_by_lines
returns-in_err-write_ratio g c =
    let p = err_from_is_err_and c.from_residual-in_err-write_ratio.result c.from_residual-in_err-write_ratio.ensures.1 in
    let word = c.args.word.now in
    rw p.1 (sends_stop _ p.0 (sends_stop _ p.0 (sends_stop _ p.0 (sends_then c.in_ok-write_amount.ensures
    (sends_as (ap₂ (ratio_line word (codes "spfm permanent")) c.spfm_target-spfm.ensures.value c.spfm_permanent.ensures) c.in_err-write_ratio.ensures)))))

pub returns-in_err-write_ratio-2 : goal.returns-in_err-write_ratio-2
unfolding free_by_lines
returns-in_err-write_ratio-2 g c =
    let p = err_from_is_err_and c.from_residual-in_err-write_ratio-2.result c.from_residual-in_err-write_ratio-2.ensures.1 in
    let word = c.args.word.now in
    rw p.1 (sends_stop _ p.0 (sends_stop _ p.0 (sends_then (sends_then c.in_ok-write_amount.ensures
    (sends_as (ap₂ (ratio_line word (codes "spfm permanent")) c.spfm_target-spfm.ensures.value c.spfm_permanent.ensures) c.in_ok-write_ratio.ensures))
    (sends_as (ap₂ (ratio_line word (codes "spfm transient")) c.spfm_target-spfm.ensures.value c.spfm_transient.ensures) c.in_err-write_ratio-2.ensures))))

pub returns-in_err-write_ratio-3 : goal.returns-in_err-write_ratio-3
unfolding free_by_lines
returns-in_err-write_ratio-3 g c =
    let p = err_from_is_err_and c.from_residual-in_err-write_ratio-3.result c.from_residual-in_err-write_ratio-3.ensures.1 in
    let word = c.args.word.now in
    rw p.1 (sends_stop _ p.0 (sends_then (sends_then (sends_then c.in_ok-write_amount.ensures
    (sends_as (ap₂ (ratio_line word (codes "spfm permanent")) c.spfm_target-spfm.ensures.value c.spfm_permanent.ensures) c.in_ok-write_ratio.ensures))
    (sends_as (ap₂ (ratio_line word (codes "spfm transient")) c.spfm_target-spfm.ensures.value c.spfm_transient.ensures) c.in_ok-write_ratio-2.ensures))
    (sends_as (ap₂ (ratio_line word (codes "lfm")) c.lfm_target.ensures.value c.lfm.ensures) c.in_err-write_ratio-3.ensures)))

pub returns : goal.returns
unfolding free_by_lines
returns g c =
    let word = c.args.word.now in
    sends_then (sends_then (sends_then (sends_then c.in_ok-write_amount.ensures
    (sends_as (ap₂ (ratio_line word (codes "spfm permanent")) c.spfm_target-spfm.ensures.value c.spfm_permanent.ensures) c.in_ok-write_ratio.ensures))
    (sends_as (ap₂ (ratio_line word (codes "spfm transient")) c.spfm_target-spfm.ensures.value c.spfm_transient.ensures) c.in_ok-write_ratio-2.ensures))
    (sends_as (ap₂ (ratio_line word (codes "lfm")) c.lfm_target.ensures.value c.lfm.ensures) c.in_ok-write_ratio-3.ensures))
    c.write_term.ensures
