use Rattle.std.proofs.Common.{length, take}
use Rattle.golden_values.specs.Golden.{AreSeenIn}
use Rattle.testbench.specs.Seen.{HasRoom}
use Rattle.golden_values.proofs.values.add_runs.Given as goal

-- the values of the runs so far are added
abbrev pub invariant-loop-run : goal.invariant-loop-run
invariant-loop-run l = record {
  room : HasRoom (length l.bench.circuit.drivers) l.seen;
  seen : AreSeenIn l.bench.circuit (take l.run l.bench.runs) l.seen;
}
