use Rattle.std.proofs.lemmas.Result.{err_from_is_err_and}
use Rattle.command_reads.specs.Files.{reads_by}
use Rattle.command_reads.proofs.Behind.{driven_unread, driven_refused, driven_made}
use Rattle.command_reads.proofs.driven.judge_driven.Goals as goal

pub returns-in_err-ordered-clause-drives : goal.returns-in_err-ordered-clause-drives
returns-in_err-ordered-clause-drives c =
    let p = err_from_is_err_and c.from_residual.result c.from_residual.ensures.1 in
    rw (p.1, p.2) (driven_unread c.args.netlist.now c.args.settings (reads_by c.args.reads.now) _ c.in_err-ordered.ensures.taken)

pub returns-in_err-work-clause-drives : goal.returns-in_err-work-clause-drives
returns-in_err-work-clause-drives c =
    let p = err_from_is_err_and c.from_residual-in_err-work.result c.from_residual-in_err-work.ensures.1 in
    rw (p.1, p.2) (driven_refused c.args.netlist.now c.args.settings (reads_by c.args.reads.now) c.in_ok-ordered.ordered.net _ c.in_ok-ordered.ensures.taken
    c.in_err-work.ensures.answers)

pub returns-clause-drives : goal.returns-clause-drives
returns-clause-drives c =
    driven_made c.args.netlist.now c.args.settings (reads_by c.args.reads.now) c.in_ok-ordered.ordered.net c.in_ok-work.work c.in_ok-ordered.ensures.taken
    c.in_ok-work.ensures.answers
