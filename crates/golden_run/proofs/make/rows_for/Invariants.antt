use Rattle.std.proofs.Common.{◌+◌, ◌/◌, length}
use Rattle.golden_run.specs.Events.{ordered_of}
use Rattle.golden_run.specs.Recorded.{AreGoldenRows}
use Rattle.golden_run.specs.Simulated.{IsSimulationOf}
use Rattle.golden_run.proofs.make.rows_for.Given as goal

abbrev pub invariant-loop-run : goal.invariant-loop-run
invariant-loop-run l = record {
  made : IsSimulationOf (ordered_of l.wiring) l.simulation;
  rows : AreGoldenRows (record { circuit = l.wiring.netlist.now; runs = l.work }) (length l.wiring.netlist.now.drivers / 64 + 1) l.run l.rows.items;
}
