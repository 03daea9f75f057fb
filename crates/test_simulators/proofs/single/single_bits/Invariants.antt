use Rattle.std.proofs.Common.{◌≡◌}
use Rattle.cycle_sim.specs.Sim.{IsSimulationFor}
use Rattle.test_simulators.proofs.single.single_bits.Given as goal

-- the simulation stands behind so many cycles
abbrev pub invariant-loop-t : goal.invariant-loop-t
invariant-loop-t l = record { made : IsSimulationFor l.net l.order l.sim; cycle : l.sim.moment.cycle ≡ l.t }
