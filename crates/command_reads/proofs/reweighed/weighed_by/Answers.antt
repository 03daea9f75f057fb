use Rattle.std.proofs.lemmas.Result.{err_from_is_err_and}
use Rattle.command_reads.proofs.reweighed.weighed_by.Goals as goal

pub returns-in_err-planned-clause-weighs : goal.returns-in_err-planned-clause-weighs
returns-in_err-planned-clause-weighs c =
    let p = err_from_is_err_and c.from_residual.result c.from_residual.ensures.1 in
    rw (p.1, p.2) c.in_err-planned.ensures.plans

pub reweighed_rows-requires : goal.reweighed_rows-requires
reweighed_rows-requires c = c.requires.distinct c.in_ok-planned.planned.plan c.in_ok-planned.ensures.plans.0
