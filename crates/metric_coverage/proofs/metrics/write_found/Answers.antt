use Rattle.std.proofs.Common.{ap, ap₂, ◌∙◌}
use Rattle.std.specs.Prelude.{Some, codes, decimal}
use Rattle.std.proofs.lemmas.Result.{err_from_is_err_and}
use Rattle.fmeda_report.specs.Words.{fraction_word}
use Rattle.metric_sums.specs.declared.Targets.{Targets}
use Rattle.fm_shelf.proofs.Sending.{sends_as, sends_stop, sends_then}
use Rattle.metric_coverage.specs.Text.{found_by, found_line}
use Rattle.metric_coverage.proofs.metrics.write_found.Goals as goal

pub returns-in_err-write_metric : goal.returns-in_err-write_metric
unfolding found_by
returns-in_err-write_metric g c =
    let p = err_from_is_err_and c.from_residual.result c.from_residual.ensures.1 in
    let permanent = c.bytes.ensures ∙ c.fraction_word-permanent.ensures ∙ ap fraction_word c.spfm_permanent.ensures in
    rw p.1 (sends_stop _ p.0 (sends_stop _ p.0 (sends_stop _ p.0
    (sends_as (ap₂ (found_line (codes "spfm permanent")) permanent (ap (λ (t : Targets). t.spfm_permanent) c.targets-targets.ensures)) c.in_err-write_metric.ensures))))

pub returns-in_err-write_metric-2 : goal.returns-in_err-write_metric-2
unfolding found_by
returns-in_err-write_metric-2 g c =
    let p = err_from_is_err_and c.from_residual-in_err-write_metric-2.result c.from_residual-in_err-write_metric-2.ensures.1 in
    let permanent = c.bytes.ensures ∙ c.fraction_word-permanent.ensures ∙ ap fraction_word c.spfm_permanent.ensures in
    let transient = c.bytes-2.ensures ∙ c.fraction_word-transient.ensures ∙ ap fraction_word c.spfm_transient.ensures in
    rw p.1 (sends_stop _ p.0 (sends_stop _ p.0 (sends_then
    (sends_as (ap₂ (found_line (codes "spfm permanent")) permanent (ap (λ (t : Targets). t.spfm_permanent) c.targets-targets.ensures)) c.in_ok-write_metric.ensures)
    (sends_as (ap₂ (found_line (codes "spfm transient")) transient (ap (λ (t : Targets). t.spfm_transient) c.targets-targets.ensures)) c.in_err-write_metric-2.ensures))))

pub returns-in_err-write_metric-3 : goal.returns-in_err-write_metric-3
unfolding found_by
returns-in_err-write_metric-3 g c =
    let p = err_from_is_err_and c.from_residual-in_err-write_metric-3.result c.from_residual-in_err-write_metric-3.ensures.1 in
    let permanent = c.bytes.ensures ∙ c.fraction_word-permanent.ensures ∙ ap fraction_word c.spfm_permanent.ensures in
    let transient = c.bytes-2.ensures ∙ c.fraction_word-transient.ensures ∙ ap fraction_word c.spfm_transient.ensures in
    let latent = c.bytes-3.ensures ∙ c.fraction_word-latent.ensures ∙ ap fraction_word c.lfm.ensures in
    rw p.1 (sends_stop _ p.0 (sends_then (sends_then
    (sends_as (ap₂ (found_line (codes "spfm permanent")) permanent (ap (λ (t : Targets). t.spfm_permanent) c.targets-targets.ensures)) c.in_ok-write_metric.ensures)
    (sends_as (ap₂ (found_line (codes "spfm transient")) transient (ap (λ (t : Targets). t.spfm_transient) c.targets-targets.ensures)) c.in_ok-write_metric-2.ensures))
    (sends_as (ap₂ (found_line (codes "lfm")) latent (ap (λ (t : Targets). t.lfm) c.targets-targets.ensures)) c.in_err-write_metric-3.ensures)))

pub returns : goal.returns
unfolding found_by
returns g c =
    let permanent = c.bytes.ensures ∙ c.fraction_word-permanent.ensures ∙ ap fraction_word c.spfm_permanent.ensures in
    let transient = c.bytes-2.ensures ∙ c.fraction_word-transient.ensures ∙ ap fraction_word c.spfm_transient.ensures in
    let latent = c.bytes-3.ensures ∙ c.fraction_word-latent.ensures ∙ ap fraction_word c.lfm.ensures in
    let term = c.bytes-4.ensures ∙ c.number_word.ensures ∙ ap decimal c.term.ensures in
    sends_then (sends_then (sends_then
    (sends_as (ap₂ (found_line (codes "spfm permanent")) permanent (ap (λ (t : Targets). t.spfm_permanent) c.targets-targets.ensures)) c.in_ok-write_metric.ensures)
    (sends_as (ap₂ (found_line (codes "spfm transient")) transient (ap (λ (t : Targets). t.spfm_transient) c.targets-targets.ensures)) c.in_ok-write_metric-2.ensures))
    (sends_as (ap₂ (found_line (codes "lfm")) latent (ap (λ (t : Targets). t.lfm) c.targets-targets.ensures)) c.in_ok-write_metric-3.ensures))
    (sends_as (ap₂ (found_line (codes "term")) term (ap (λ (t : Targets). Some t.term) c.targets-targets.ensures)) c.write_metric-4.ensures)
