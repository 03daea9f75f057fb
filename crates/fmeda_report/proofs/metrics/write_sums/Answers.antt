use Rattle.std.proofs.Common.{◌∷◌, [], ◌∙◌}
use Rattle.std.specs.Prelude.{codes}
use Rattle.std.proofs.lemmas.Result.{err_from_is_err_and}
use Rattle.fm_base.specs.Text.{line}
use Rattle.fm_base.specs.Names.{Bytes}
use Rattle.fmeda_report.specs.Steps.{sum_lines}
use Rattle.fm_shelf.proofs.Sending.{sends_as, sends_stop, sends_then}
use Rattle.fmeda_report.proofs.metrics.write_sums.Goals as goal

-- the lines for words of numbers
permanent : Bytes → Bytes → Bytes → Bytes
permanent all danger latent = line (codes "permanent" ∷ codes "all" ∷ all ∷ codes "danger" ∷ danger ∷ codes "latent" ∷ latent ∷ [])

transient : Bytes → Bytes → Bytes
transient all danger = line (codes "transient" ∷ codes "all" ∷ all ∷ codes "danger" ∷ danger ∷ [])

pub returns-in_err-write_line : goal.returns-in_err-write_line
unfolding sum_lines permanent transient
returns-in_err-write_line g c =
    let p = err_from_is_err_and c.from_residual.result c.from_residual.ensures.1 in
    let all = c.bytes.ensures ∙ c.number_word.ensures in
    let danger = c.bytes-2.ensures ∙ c.number_word-2.ensures in
    let latent = c.bytes-3.ensures ∙ c.number_word-3.ensures in
    rw p.1 (sends_stop _ p.0 (sends_as (λ j. permanent (all j) (danger j) (latent j)) c.in_err-write_line.ensures))

pub returns : goal.returns
unfolding sum_lines permanent transient
returns g c =
    let all = c.bytes.ensures ∙ c.number_word.ensures in
    let danger = c.bytes-2.ensures ∙ c.number_word-2.ensures in
    let latent = c.bytes-3.ensures ∙ c.number_word-3.ensures in
    let all_transient = c.bytes-4.ensures ∙ c.number_word-4.ensures in
    let danger_transient = c.bytes-5.ensures ∙ c.number_word-5.ensures in
    sends_then (sends_as (λ j. permanent (all j) (danger j) (latent j)) c.in_ok-write_line.ensures)
    (sends_as (λ j. transient (all_transient j) (danger_transient j)) c.write_line-2.ensures)
