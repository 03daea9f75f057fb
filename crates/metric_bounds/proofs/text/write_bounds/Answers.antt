use Rattle.std.proofs.Common.{ap, ap₂}
use Rattle.std.specs.Prelude.{codes}
use Rattle.std.proofs.lemmas.Result.{err_from_is_err_and}
use Rattle.fm_shelf.proofs.Sending.{sends_as, sends_stop, sends_then}
use Rattle.metric_bounds.specs.Steps.{bound_lines, ends_line, term_line}
use Rattle.metric_bounds.proofs.text.write_bounds.Goals as goal

pub returns-in_err-write_ends : goal.returns-in_err-write_ends
unfolding bound_lines
returns-in_err-write_ends g c =
    let p = err_from_is_err_and c.from_residual.result c.from_residual.ensures.1 in
    rw p.1 (sends_stop _ p.0 (sends_stop _ p.0 (sends_stop _ p.0
    (sends_as (ap (ends_line (codes "spfm permanent")) c.spfm_permanent.ensures) c.in_err-write_ends.ensures))))

pub returns-in_err-write_ends-2 : goal.returns-in_err-write_ends-2
unfolding bound_lines
returns-in_err-write_ends-2 g c =
    let p = err_from_is_err_and c.from_residual-in_err-write_ends-2.result c.from_residual-in_err-write_ends-2.ensures.1 in
    rw p.1 (sends_stop _ p.0 (sends_stop _ p.0 (sends_then
    (sends_as (ap (ends_line (codes "spfm permanent")) c.spfm_permanent.ensures) c.in_ok-write_ends.ensures)
    (sends_as (ap (ends_line (codes "spfm transient")) c.spfm_transient.ensures) c.in_err-write_ends-2.ensures))))

pub returns-in_err-write_ends-3 : goal.returns-in_err-write_ends-3
unfolding bound_lines
returns-in_err-write_ends-3 g c =
    let p = err_from_is_err_and c.from_residual-in_err-write_ends-3.result c.from_residual-in_err-write_ends-3.ensures.1 in
    rw p.1 (sends_stop _ p.0 (sends_then (sends_then
    (sends_as (ap (ends_line (codes "spfm permanent")) c.spfm_permanent.ensures) c.in_ok-write_ends.ensures)
    (sends_as (ap (ends_line (codes "spfm transient")) c.spfm_transient.ensures) c.in_ok-write_ends-2.ensures))
    (sends_as (ap (ends_line (codes "lfm")) c.lfm.ensures) c.in_err-write_ends-3.ensures)))

pub returns : goal.returns
unfolding bound_lines
returns g c =
    sends_then (sends_then (sends_then
    (sends_as (ap (ends_line (codes "spfm permanent")) c.spfm_permanent.ensures) c.in_ok-write_ends.ensures)
    (sends_as (ap (ends_line (codes "spfm transient")) c.spfm_transient.ensures) c.in_ok-write_ends-2.ensures))
    (sends_as (ap (ends_line (codes "lfm")) c.lfm.ensures) c.in_ok-write_ends-3.ensures))
    (sends_as (ap₂ term_line c.least_term.ensures c.greatest_term.ensures) c.write_term.ensures)
