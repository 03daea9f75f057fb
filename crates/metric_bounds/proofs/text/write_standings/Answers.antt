use Rattle.std.proofs.Common.{◌∙◌, ap, ap₂}
use Rattle.std.specs.Prelude.{codes, Some}
use Rattle.std.proofs.lemmas.Result.{err_from_is_err_and}
use Rattle.fm_shelf.proofs.Sending.{sends_as, sends_stop, sends_then}
use Rattle.metric_bounds.specs.Bounds.{standing_of}
use Rattle.metric_bounds.specs.Steps.{standing_line, standing_lines}
use Rattle.metric_bounds.proofs.text.write_standings.Goals as goal

pub returns-in_err-write_standing : goal.returns-in_err-write_standing
unfolding standing_lines
returns-in_err-write_standing g c =
    let p = err_from_is_err_and c.from_residual.result c.from_residual.ensures.1 in
    let permanent = c.standing.ensures ∙ ap₂ standing_of c.spfm_target-spfm.ensures.value c.spfm_permanent.ensures in
    rw p.1 (sends_stop _ p.0 (sends_stop _ p.0 (sends_stop _ p.0
    (sends_as (ap (standing_line (codes "spfm permanent")) permanent) c.in_err-write_standing.ensures))))

pub returns-in_err-write_standing-2 : goal.returns-in_err-write_standing-2
unfolding standing_lines
returns-in_err-write_standing-2 g c =
    let p = err_from_is_err_and c.from_residual-in_err-write_standing-2.result c.from_residual-in_err-write_standing-2.ensures.1 in
    let permanent = c.standing.ensures ∙ ap₂ standing_of c.spfm_target-spfm.ensures.value c.spfm_permanent.ensures in
    let transient = c.standing-2.ensures ∙ ap₂ standing_of c.spfm_target-spfm.ensures.value c.spfm_transient.ensures in
    rw p.1 (sends_stop _ p.0 (sends_stop _ p.0 (sends_then
    (sends_as (ap (standing_line (codes "spfm permanent")) permanent) c.in_ok-write_standing.ensures)
    (sends_as (ap (standing_line (codes "spfm transient")) transient) c.in_err-write_standing-2.ensures))))

pub returns-in_err-write_standing-3 : goal.returns-in_err-write_standing-3
unfolding standing_lines
returns-in_err-write_standing-3 g c =
    let p = err_from_is_err_and c.from_residual-in_err-write_standing-3.result c.from_residual-in_err-write_standing-3.ensures.1 in
    let permanent = c.standing.ensures ∙ ap₂ standing_of c.spfm_target-spfm.ensures.value c.spfm_permanent.ensures in
    let transient = c.standing-2.ensures ∙ ap₂ standing_of c.spfm_target-spfm.ensures.value c.spfm_transient.ensures in
    let latent = c.standing-3.ensures ∙ ap₂ standing_of c.lfm_target.ensures.value c.lfm.ensures in
    rw p.1 (sends_stop _ p.0 (sends_then (sends_then
    (sends_as (ap (standing_line (codes "spfm permanent")) permanent) c.in_ok-write_standing.ensures)
    (sends_as (ap (standing_line (codes "spfm transient")) transient) c.in_ok-write_standing-2.ensures))
    (sends_as (ap (standing_line (codes "lfm")) latent) c.in_err-write_standing-3.ensures)))

pub returns : goal.returns
unfolding standing_lines
returns g c =
    let permanent = c.standing.ensures ∙ ap₂ standing_of c.spfm_target-spfm.ensures.value c.spfm_permanent.ensures in
    let transient = c.standing-2.ensures ∙ ap₂ standing_of c.spfm_target-spfm.ensures.value c.spfm_transient.ensures in
    let latent = c.standing-3.ensures ∙ ap₂ standing_of c.lfm_target.ensures.value c.lfm.ensures in
    sends_then (sends_then (sends_then
    (sends_as (ap (standing_line (codes "spfm permanent")) permanent) c.in_ok-write_standing.ensures)
    (sends_as (ap (standing_line (codes "spfm transient")) transient) c.in_ok-write_standing-2.ensures))
    (sends_as (ap (standing_line (codes "lfm")) latent) c.in_ok-write_standing-3.ensures))
    (sends_as (ap (λ s. standing_line (codes "term") (Some s)) c.term_standing.ensures) c.write_standing-4.ensures)
