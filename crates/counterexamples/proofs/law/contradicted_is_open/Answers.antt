use Rattle.counterexamples.proofs.Contradicting.{never}
use Rattle.counterexamples.proofs.law.contradicted_is_open.Goals as goal

pub returns : goal.returns
returns c = λ own order p sound ordered settled fault found claim posed.
    never c.alarms_come.ensures.alarms c.faults_lie_within.ensures.one own order p sound ordered settled fault claim posed found
