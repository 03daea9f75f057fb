use Rattle.fmeda_top.proofs.Answering.{always_holds}
use Rattle.fmeda_top.proofs.Workloads.{of_the_plan}
use Rattle.fmeda_top.proofs.law.always_holds.Goals as goal

pub returns-clause-holds : goal.returns-clause-holds
returns-clause-holds c = always_holds c.printed_spfm_holds.ensures.spfm c.printed_spfm_holds.ensures.later c.text_is_of_no_runs.ensures

pub returns-clause-reports : goal.returns-clause-reports
returns-clause-reports c = of_the_plan
