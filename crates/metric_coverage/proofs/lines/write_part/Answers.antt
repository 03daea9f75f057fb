use Rattle.std.proofs.Common.{ap}
use Rattle.std.proofs.lemmas.Result.{err_from_is_err_and}
use Rattle.rate_table.specs.declared.Part.{Part}
use Rattle.fm_shelf.proofs.Sending.{sends_as, sends_stop, sends_then}
use Rattle.metric_coverage.specs.Text.{latent_by}
use Rattle.metric_coverage.proofs.lines.write_part.Goals as goal

pub returns-in_err-write_evidence : goal.returns-in_err-write_evidence
returns-in_err-write_evidence g c =
    let p = err_from_is_err_and c.from_residual.result c.from_residual.ensures.1 in
    rw p.1 (sends_stop _ p.0 (sends_stop _ p.0 c.in_err-write_evidence.ensures))

pub returns-in_err-write_latent : goal.returns-in_err-write_latent
returns-in_err-write_latent g c =
    let p = err_from_is_err_and c.from_residual-in_err-write_latent.result c.from_residual-in_err-write_latent.ensures.1 in
    rw p.1 (sends_stop _ p.0 (sends_then c.in_ok-write_evidence.ensures (sends_as (ap (λ (own : Part). latent_by own c.args.weights.now.classes) c.part.ensures) c.in_err-write_latent.ensures)))

pub returns : goal.returns
returns g c = sends_then (sends_then c.in_ok-write_evidence.ensures (sends_as (ap (λ (own : Part). latent_by own c.args.weights.now.classes) c.part.ensures) c.in_ok-write_latent.ensures)) c.write_evidence-2.ensures
