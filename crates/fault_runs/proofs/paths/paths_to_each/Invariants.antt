use Rattle.std.proofs.Common.{◌≡◌, ◌<◌, ℕ, length, slice_index_or}
use Rattle.reach.specs.Reached.{Reached}
use Rattle.fault_runs.specs.Whole.{alarm_alone}
use Rattle.fault_runs.proofs.paths.paths_to_each.Given as goal
use Rattle.testbench.specs.Points.{alarm_at}

-- the paths to the points so far
abbrev pub invariant-loop-net : goal.invariant-loop-net
invariant-loop-net l = record {
  count : length l.paths.items ≡ l.net-index;
  each : (a : ℕ) (d : Reached) → a < l.net-index
      → slice_index_or l.paths.items a d ≡ record { circuit = l.netlist; points = alarm_alone (alarm_at l.nets a) };
}
