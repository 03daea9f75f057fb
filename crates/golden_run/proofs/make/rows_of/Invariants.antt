use Rattle.std.proofs.Common.{◌≡◌, ◌+◌, ◌/◌, [], length}
use Rattle.circuit.specs.Trace.{raw_state}
use Rattle.workload.specs.Runs.{run_at}
use Rattle.golden_run.specs.Events.{ordered_of}
use Rattle.golden_run.specs.Recorded.{AreRowsOf}
use Rattle.golden_run.specs.Simulated.{IsSimulationOf}
use Rattle.golden_run.proofs.make.rows_of.Given as goal

-- the simulation stands behind the cycles so far, whose rows are there
abbrev pub invariant-loop-t : goal.invariant-loop-t
invariant-loop-t l = record {
  made : IsSimulationOf (ordered_of l.wiring) l.simulation;
  raw : l.simulation.raw.items ≡ raw_state l.wiring.netlist.now [] (run_at l.work l.run).vectors l.t;
  rows : AreRowsOf l.wiring.netlist.now (run_at l.work l.run) (length l.wiring.netlist.now.drivers / 64 + 1) l.t l.words.items;
}
