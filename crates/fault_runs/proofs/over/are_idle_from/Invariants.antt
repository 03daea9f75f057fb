use Rattle.std.proofs.Common.{◌<◌, ℕ, None, get_or}
use Rattle.fault_runs.specs.Over.{IsIdleFrom}
use Rattle.fault_runs.proofs.over.are_idle_from.Given as goal

-- those so far are idle
abbrev pub invariant-loop-fault : goal.invariant-loop-fault
invariant-loop-fault l = (i : ℕ) → i < l.fault-index → IsIdleFrom l.cycle (get_or l.faults i None)
