use Rattle.always.proofs.Whole.{covered}
use Rattle.always.proofs.law.whole_parts_are_covered.Goals as goal

pub returns : goal.returns
returns c = covered c.alarms_come.ensures.danger c.faults_lie_within.ensures.some
