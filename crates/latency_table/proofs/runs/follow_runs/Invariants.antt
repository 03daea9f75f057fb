use Rattle.std.proofs.Common.{◌≡◌, ◌<◌, ℕ}
use Rattle.lane_words.specs.Loads.{loaded_faults}
use Rattle.fault_runs.specs.Draw.{IsDrawFor}
use Rattle.latency_table.specs.Latency.{IsLatencyOf, latency_at}
use Rattle.latency_table.proofs.runs.follow_runs.Given as goal

-- what the runs so far show is kept
abbrev pub invariant-loop-run : goal.invariant-loop-run
invariant-loop-run g l = record {
  made : IsDrawFor l.bench l.draw;
  faults : l.draw.faults ≡ l.initial.draw.faults;
  kept : (j : ℕ) → j < 1024
      → IsLatencyOf l.bench.circuit l.bench.points l.ftti l.bench.runs (loaded_faults l.initial.draw.faults.items j) l.run (latency_at l.latencies j);
}
