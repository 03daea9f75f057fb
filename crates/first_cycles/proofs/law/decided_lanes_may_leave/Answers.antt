use Rattle.first_cycles.proofs.Idle.{idle}
use Rattle.first_cycles.proofs.Leaving.{leave}
use Rattle.first_cycles.proofs.law.decided_lanes_may_leave.Goals as goal

pub returns-clause-decided : goal.returns-clause-decided
returns-clause-decided c = leave

pub returns-clause-idle : goal.returns-clause-idle
returns-clause-idle c = idle
