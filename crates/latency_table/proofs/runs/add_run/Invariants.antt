use Rattle.std.proofs.Common.{◌≡◌, ◌+◌, ◌<◌, ◌≤◌, ℕ, List, length}
use Rattle.circuit.specs.declared.parts.Fault.{Fault}
use Rattle.circuit.specs.Circuit.{Circuit}
use Rattle.workload.specs.declared.run.Run.{Run}
use Rattle.workload.specs.Runs.{run_at}
use Rattle.first_cycles.specs.Shown.{shown_in}
use Rattle.fault_runs.specs.Records.{record_of}
use Rattle.fault_runs.specs.Whole.{HasShownRun}
use Rattle.latency_table.specs.Latency.{IsLatencyOf, latency_at}
use Rattle.latency_table.proofs.runs.add_run.Given as goal

-- the run is added to the faults so far, and the others are as they were
abbrev pub invariant-loop-j : goal.invariant-loop-j
invariant-loop-j l = record {
  done : (c : Circuit) (runs : List Run) (faults : ℕ → List Fault) (m : ℕ) → m < l.j → l.run < length runs → (run_at runs l.run).kind ≡ l.kind
      → HasShownRun l.points (shown_in c (faults m) (run_at runs l.run)) (record_of l.records m)
      → IsLatencyOf c l.points l.ftti runs (faults m) l.run (latency_at l.initial.latencies m)
      → IsLatencyOf c l.points l.ftti runs (faults m) (l.run + 1) (latency_at l.latencies m);
  left : (m : ℕ) → l.j ≤ m → latency_at l.latencies m ≡ latency_at l.initial.latencies m;
}
