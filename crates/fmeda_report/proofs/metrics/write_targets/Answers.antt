use Rattle.std.proofs.Common.{◌∷◌, [], ap}
use Rattle.std.specs.Prelude.{codes}
use Rattle.std.proofs.lemmas.Result.{err_from_is_err_and}
use Rattle.fm_base.specs.Text.{line}
use Rattle.fm_base.specs.Names.{Bytes}
use Rattle.fmeda_report.specs.Steps.{target_lines}
use Rattle.fm_shelf.proofs.Sending.{sends_as, sends_stop, sends_then}
use Rattle.fmeda_report.proofs.metrics.write_targets.Goals as goal

-- the lines for the words of the targets
permanent : Bytes → Bytes
permanent met = line (codes "target" ∷ codes "spfm" ∷ codes "permanent" ∷ met ∷ [])

transient : Bytes → Bytes
transient met = line (codes "target" ∷ codes "spfm" ∷ codes "transient" ∷ met ∷ [])

latent : Bytes → Bytes
latent met = line (codes "target" ∷ codes "lfm" ∷ met ∷ [])

term : Bytes → Bytes
term met = line (codes "target" ∷ codes "term" ∷ met ∷ [])

pub returns-in_err-write_line : goal.returns-in_err-write_line
unfolding target_lines permanent
returns-in_err-write_line g c =
    let p = err_from_is_err_and c.from_residual.result c.from_residual.ensures.1 in
    rw p.1 (sends_stop _ p.0 (sends_stop _ p.0 (sends_stop _ p.0 (sends_as (ap permanent c.target_word-permanent.ensures) c.in_err-write_line.ensures))))

pub returns-in_err-write_line-2 : goal.returns-in_err-write_line-2
unfolding target_lines permanent transient
returns-in_err-write_line-2 g c =
    let p = err_from_is_err_and c.from_residual-in_err-write_line-2.result c.from_residual-in_err-write_line-2.ensures.1 in
    rw p.1 (sends_stop _ p.0 (sends_stop _ p.0 (sends_then
    (sends_as (ap permanent c.target_word-permanent.ensures) c.in_ok-write_line.ensures)
    (sends_as (ap transient c.target_word-transient.ensures) c.in_err-write_line-2.ensures))))

pub returns-in_err-write_line-3 : goal.returns-in_err-write_line-3
unfolding target_lines permanent transient latent
returns-in_err-write_line-3 g c =
    let p = err_from_is_err_and c.from_residual-in_err-write_line-3.result c.from_residual-in_err-write_line-3.ensures.1 in
    rw p.1 (sends_stop _ p.0 (sends_then (sends_then
    (sends_as (ap permanent c.target_word-permanent.ensures) c.in_ok-write_line.ensures)
    (sends_as (ap transient c.target_word-transient.ensures) c.in_ok-write_line-2.ensures))
    (sends_as (ap latent c.target_word.ensures) c.in_err-write_line-3.ensures)))

pub returns : goal.returns
unfolding target_lines permanent transient latent term
returns g c =
    sends_then (sends_then (sends_then
    (sends_as (ap permanent c.target_word-permanent.ensures) c.in_ok-write_line.ensures)
    (sends_as (ap transient c.target_word-transient.ensures) c.in_ok-write_line-2.ensures))
    (sends_as (ap latent c.target_word.ensures) c.in_ok-write_line-3.ensures))
    (sends_as (ap term c.target_word-2.ensures) c.write_line-4.ensures)
