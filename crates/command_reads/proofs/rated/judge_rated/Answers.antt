use Rattle.std.proofs.lemmas.Result.{err_from_is_err_and}
use Rattle.command_reads.specs.Files.{reads_by}
use Rattle.command_reads.proofs.Behind.{rated_unread, rated_refused, rated_made}
use Rattle.command_reads.proofs.rated.judge_rated.Goals as goal

pub returns-in_err-ordered : goal.returns-in_err-ordered
returns-in_err-ordered c =
    let p = err_from_is_err_and c.from_residual.result c.from_residual.ensures.1 in
    rw (p.1, p.2) (λ set. rated_unread c.args.netlist.now set (reads_by c.args.reads.now) _ c.in_err-ordered.ensures.taken)

pub returns-in_err-rates : goal.returns-in_err-rates
returns-in_err-rates c =
    let p = err_from_is_err_and c.from_residual-in_err-rates.result c.from_residual-in_err-rates.ensures.1 in
    rw (p.1, p.2) (λ set. rated_refused c.args.netlist.now set (reads_by c.args.reads.now) c.in_ok-ordered.ordered.net _ c.in_ok-ordered.ensures.taken c.in_err-rates.ensures)

pub returns : goal.returns
returns c =
    λ set. rated_made c.args.netlist.now set (reads_by c.args.reads.now) c.in_ok-ordered.ordered.net c.in_ok-rates.rates c.in_ok-ordered.ensures.taken c.in_ok-rates.ensures
