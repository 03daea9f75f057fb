use Rattle.std.proofs.Common.{◌∙◌, subst, sym, Err}
use Rattle.std.proofs.lemmas.Result.{err_from_is_err_and}
use Rattle.command_reads.specs.Answers.{AnswersAs, runless_behind}
use Rattle.command_reads.specs.FirstRefusal.{runless_plan_of}
use Rattle.command_reads.specs.Files.{reads_by}
use Rattle.command_reads.proofs.Netlists.{net_step}
use Rattle.command_reads.proofs.Runless.{runless_give, runless_is, runless_refuse}
use Rattle.command_reads.proofs.Steps.{taken_refused, taken_next, taken_next_refused}
use Rattle.command_reads.proofs.supposed.runless_plan.Goals as goal

pub returns-in_err-ordered-clause-plans : goal.returns-in_err-ordered-clause-plans
returns-in_err-ordered-clause-plans c =
    let p = err_from_is_err_and c.from_residual.result c.from_residual.ensures.1 in
    let name = c.args.netlist.now in
    let reads = reads_by c.args.reads.now in
    let set = c.args.set in
    rw (p.1, p.2) (taken_refused name reads (net_step name reads) (λ net. runless_behind net set reads) (λ walk. runless_plan_of name walk set reads)
    (λ walk. runless_is name walk set reads) _ c.in_err-ordered.ensures.taken)

pub returns-in-Err-clause-plans : goal.returns-in-Err-clause-plans
returns-in-Err-clause-plans c =
    let name = c.args.netlist.now in
    let reads = reads_by c.args.reads.now in
    let set = c.args.set in
    let net = c.in_ok-ordered.ordered.net in
    taken_next_refused name reads (net_step name reads) (λ d. runless_behind d set reads) (λ walk. runless_plan_of name walk set reads)
    (λ walk. runless_is name walk set reads) net _ c.in_ok-ordered.ensures.taken (runless_refuse net reads set _ c.in-Err.ensures.answers)

pub returns-in_err-runless_from-in-Ok-clause-plans : goal.returns-in_err-runless_from-in-Ok-clause-plans
returns-in_err-runless_from-in-Ok-clause-plans c =
    let p = err_from_is_err_and c.from_residual-in_err-runless_from-in-Ok.result c.from_residual-in_err-runless_from-in-Ok.ensures.1 in
    let name = c.args.netlist.now in
    let reads = reads_by c.args.reads.now in
    let set = c.args.set in
    let net = c.in_ok-ordered.ordered.net in
    let answer = subst (λ r. AnswersAs r (Err c.in_err-runless_from-in-Ok.field-0.0)) (sym (runless_give net reads set c.in-Ok.tables c.in-Ok.ensures.answers))
    c.in_err-runless_from-in-Ok.ensures.answers in
    rw (p.1, p.2) (taken_next_refused name reads (net_step name reads) (λ d. runless_behind d set reads) (λ walk. runless_plan_of name walk set reads)
    (λ walk. runless_is name walk set reads) net _ c.in_ok-ordered.ensures.taken answer)

pub returns-in_ok-runless_from-in-Ok-clause-plans : goal.returns-in_ok-runless_from-in-Ok-clause-plans
returns-in_ok-runless_from-in-Ok-clause-plans c =
    let name = c.args.netlist.now in
    let reads = reads_by c.args.reads.now in
    let set = c.args.set in
    let net = c.in_ok-ordered.ordered.net in
    taken_next name reads (net_step name reads) (λ d. runless_behind d set reads) (λ walk. runless_plan_of name walk set reads)
    (λ walk. runless_is name walk set reads) net _ c.in_ok-ordered.ensures.taken
    (runless_give net reads set c.in-Ok.tables c.in-Ok.ensures.answers ∙ c.in_ok-runless_from-in-Ok.ensures.answers)
