use Rattle.std.proofs.lemmas.Result.{err_from_is_err_and}
use Rattle.command_reads.specs.Files.{reads_by}
use Rattle.command_reads.proofs.Behind.{observed_unread, observed_crowded, observed_refused, observed_made}
use Rattle.command_reads.proofs.observed.judge_observed.Goals as goal

pub returns-in_err-ordered-clause-observes : goal.returns-in_err-ordered-clause-observes
returns-in_err-ordered-clause-observes c =
    let p = err_from_is_err_and c.from_residual.result c.from_residual.ensures.1 in
    rw (p.1, p.2) (λ set. observed_unread c.args.netlist.now set (reads_by c.args.reads.now) _ c.in_err-ordered.ensures.taken)

pub returns-in_err-points-clause-observes : goal.returns-in_err-points-clause-observes
returns-in_err-points-clause-observes c =
    let p = err_from_is_err_and c.from_residual-in_err-points.result c.from_residual-in_err-points.ensures.1 in
    rw (p.1, p.2) (λ set. observed_crowded c.args.netlist.now set (reads_by c.args.reads.now) c.in_ok-ordered.ordered.net c.in_ok-ordered.ensures.taken
    _ c.in_err-points.ensures.answers)

pub returns-in_err-work-clause-observes : goal.returns-in_err-work-clause-observes
returns-in_err-work-clause-observes c =
    let p = err_from_is_err_and c.from_residual-in_err-work.result c.from_residual-in_err-work.ensures.1 in
    rw (p.1, p.2) (λ set. observed_refused c.args.netlist.now set (reads_by c.args.reads.now) c.in_ok-ordered.ordered.net c.in_ok-ordered.ensures.taken
    c.in_ok-points.points c.in_ok-points.ensures.answers _ c.in_err-work.ensures.answers)

pub returns-clause-observes : goal.returns-clause-observes
returns-clause-observes c =
    λ set. observed_made c.args.netlist.now set (reads_by c.args.reads.now) c.in_ok-ordered.ordered.net c.in_ok-ordered.ensures.taken
    c.in_ok-points.points c.in_ok-points.ensures.answers c.in_ok-work.work c.in_ok-work.ensures.answers
