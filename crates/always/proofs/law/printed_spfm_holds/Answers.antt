use Rattle.always.proofs.Holding.{spfm, spfm_later}
use Rattle.always.proofs.law.printed_spfm_holds.Goals as goal

pub returns-clause-spfm : goal.returns-clause-spfm
returns-clause-spfm c =
    spfm c.metric_is_at_least.ensures.sums c.metric_is_at_least.ensures.metric c.faults_are_harmless.ensures.no_path c.faults_are_harmless.ensures.alarmed

pub returns-clause-later : goal.returns-clause-later
returns-clause-later c =
    spfm_later c.metric_is_at_least.ensures.sums c.metric_is_at_least.ensures.metric c.faults_are_harmless.ensures.no_path c.faults_are_harmless.ensures.alarmed
    c.faults_are_harmless.ensures.early
