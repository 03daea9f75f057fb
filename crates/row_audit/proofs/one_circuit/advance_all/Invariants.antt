use Rattle.cycle_sim.specs.Sim.{Simulation}
use Rattle.row_audit.specs.Alone.{fault_alone}
use Rattle.row_audit.proofs.Stepped.{HaveStepped}
use Rattle.row_audit.proofs.Steps.{Advances}
use Rattle.row_audit.proofs.one_circuit.advance_all.Given as goal

abbrev pub invariant-loop-k : goal.invariant-loop-k
invariant-loop-k l = (golden : Simulation) → HaveStepped (Advances l.net l.order (fault_alone l.faults) l.inputs) golden l.initial.sims l.sims l.k
