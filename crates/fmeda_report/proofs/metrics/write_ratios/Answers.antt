use Rattle.std.proofs.Common.{◌∷◌, [], ap, ◌∙◌}
use Rattle.std.specs.Prelude.{codes, decimal}
use Rattle.std.proofs.lemmas.Result.{err_from_is_err_and}
use Rattle.fm_base.specs.Text.{line}
use Rattle.fm_base.specs.Names.{Bytes}
use Rattle.fmeda_report.specs.Steps.{ratio_lines}
use Rattle.fmeda_report.specs.Words.{fraction_word}
use Rattle.fm_shelf.proofs.Sending.{sends_as, sends_stop, sends_then}
use Rattle.fmeda_report.proofs.metrics.write_ratios.Goals as goal

-- the lines for the words of the metrics
permanent : Bytes → Bytes
permanent ratio = line (codes "spfm" ∷ codes "permanent" ∷ ratio ∷ [])

transient : Bytes → Bytes
transient ratio = line (codes "spfm" ∷ codes "transient" ∷ ratio ∷ [])

latent : Bytes → Bytes
latent ratio = line (codes "lfm" ∷ ratio ∷ [])

of_term : Bytes → Bytes
of_term units = line (codes "term" ∷ units ∷ [])

pub returns-in_err-write_line : goal.returns-in_err-write_line
unfolding ratio_lines permanent
returns-in_err-write_line g c =
    let p = err_from_is_err_and c.from_residual.result c.from_residual.ensures.1 in
    let word = c.bytes.ensures ∙ c.fraction_word-permanent.ensures ∙ ap fraction_word c.spfm_permanent.ensures in
    rw p.1 (sends_stop _ p.0 (sends_stop _ p.0 (sends_stop _ p.0 (sends_as (ap permanent word) c.in_err-write_line.ensures))))

pub returns-in_err-write_line-2 : goal.returns-in_err-write_line-2
unfolding ratio_lines permanent transient
returns-in_err-write_line-2 g c =
    let p = err_from_is_err_and c.from_residual-in_err-write_line-2.result c.from_residual-in_err-write_line-2.ensures.1 in
    let first = c.bytes.ensures ∙ c.fraction_word-permanent.ensures ∙ ap fraction_word c.spfm_permanent.ensures in
    let second = c.bytes-2.ensures ∙ c.fraction_word-transient.ensures ∙ ap fraction_word c.spfm_transient.ensures in
    rw p.1 (sends_stop _ p.0 (sends_stop _ p.0 (sends_then
    (sends_as (ap permanent first) c.in_ok-write_line.ensures) (sends_as (ap transient second) c.in_err-write_line-2.ensures))))

pub returns-in_err-write_line-3 : goal.returns-in_err-write_line-3
unfolding ratio_lines permanent transient latent
returns-in_err-write_line-3 g c =
    let p = err_from_is_err_and c.from_residual-in_err-write_line-3.result c.from_residual-in_err-write_line-3.ensures.1 in
    let first = c.bytes.ensures ∙ c.fraction_word-permanent.ensures ∙ ap fraction_word c.spfm_permanent.ensures in
    let second = c.bytes-2.ensures ∙ c.fraction_word-transient.ensures ∙ ap fraction_word c.spfm_transient.ensures in
    let third = c.bytes-3.ensures ∙ c.fraction_word.ensures ∙ ap fraction_word c.lfm.ensures in
    rw p.1 (sends_stop _ p.0 (sends_then (sends_then
    (sends_as (ap permanent first) c.in_ok-write_line.ensures) (sends_as (ap transient second) c.in_ok-write_line-2.ensures))
    (sends_as (ap latent third) c.in_err-write_line-3.ensures)))

pub returns : goal.returns
unfolding ratio_lines permanent transient latent of_term
returns g c =
    let first = c.bytes.ensures ∙ c.fraction_word-permanent.ensures ∙ ap fraction_word c.spfm_permanent.ensures in
    let second = c.bytes-2.ensures ∙ c.fraction_word-transient.ensures ∙ ap fraction_word c.spfm_transient.ensures in
    let third = c.bytes-3.ensures ∙ c.fraction_word.ensures ∙ ap fraction_word c.lfm.ensures in
    let units = c.bytes-4.ensures ∙ c.number_word.ensures ∙ ap decimal c.term.ensures in
    sends_then (sends_then (sends_then
    (sends_as (ap permanent first) c.in_ok-write_line.ensures) (sends_as (ap transient second) c.in_ok-write_line-2.ensures))
    (sends_as (ap latent third) c.in_ok-write_line-3.ensures)) (sends_as (ap of_term units) c.write_line-4.ensures)
