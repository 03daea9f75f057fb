use Rattle.cycle_sim.specs.Sim.{Simulation}
use Rattle.row_audit.proofs.Stepped.{HaveStepped}
use Rattle.row_audit.proofs.Steps.{Begins}
use Rattle.row_audit.proofs.one_circuit.start_all.Given as goal

abbrev pub invariant-loop-k : goal.invariant-loop-k
invariant-loop-k l = (golden : Simulation) → HaveStepped Begins golden l.initial.sims l.sims l.k
