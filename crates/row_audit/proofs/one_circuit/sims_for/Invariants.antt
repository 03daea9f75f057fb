use Rattle.std.proofs.Common.{◌≡◌, length}
use Rattle.std.specs.List.{All}
use Rattle.cycle_sim.specs.Sim.{IsSimulationFor}
use Rattle.row_audit.proofs.one_circuit.sims_for.Given as goal

abbrev pub invariant-loop : goal.invariant-loop
invariant-loop l = record {
  each : All (IsSimulationFor l.net l.order) l.sims.items;
  count : length l.sims.items ≡ l.counter;
}
