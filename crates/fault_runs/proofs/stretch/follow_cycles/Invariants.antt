use Rattle.std.proofs.Common.{◌≡◌, ◌<◌, ◌≤◌, ◌+◌, ◌-◌, ◌*◌, ℕ, List, length, take}
use Rattle.std.specs.Prelude.{Option}
use Rattle.circuit.specs.declared.parts.Fault.{Fault}
use Rattle.workload.specs.Runs.{run_at}
use Rattle.golden_difference.specs.Beside.{AreBetween}
use Rattle.lane_words.specs.Loads.{loaded_faults}
use Rattle.testbench.specs.Load.{load_of}
use Rattle.fault_runs.specs.First.{IsNotIn, fault_in}
use Rattle.fault_runs.specs.Records.{AreKnownIn, AreRecordsFor, IsSameRecord, record_of}
use Rattle.fault_runs.specs.Shown.{HasShown}
use Rattle.fault_runs.specs.Stretch.{AreInForce}
use Rattle.fault_runs.proofs.stretch.follow_cycles.Given as goal

-- the cycles so far are simulated, and the records of the group have them
abbrev pub invariant-loop-t : goal.invariant-loop-t
invariant-loop-t g l = record {
  load : load_of l.lanes ≡ load_of l.initial.lanes;
  in_force : l.lanes.in_force ≡ l.initial.lanes.in_force;
  cycles : l.lanes.cycle ≡ l.t;
  after : AreBetween g.W.Word.lanes g.W.Word.lane_bit (take l.t (run_at l.bench.runs l.run).vectors) l.lanes;
  faults : l.records.faults ≡ l.initial.records.faults;
  fit : AreRecordsFor l.bench.points l.records;
  known : AreKnownIn l.group l.records;
  shown : (draw : List (List (Option Fault))) (k : ℕ) → AreInForce draw l.group l.initial.lanes.in_force → k < length l.group
      → HasShown l.bench.circuit l.bench.points (run_at l.bench.runs l.run) (loaded_faults draw (fault_in l.group k)) l.from (record_of l.initial.records (fault_in l.group k))
      → HasShown l.bench.circuit l.bench.points (run_at l.bench.runs l.run) (loaded_faults draw (fault_in l.group k)) l.t (record_of l.records (fault_in l.group k));
  others : (i : ℕ) → IsNotIn l.group i → IsSameRecord (record_of l.initial.records i) (record_of l.records i);
  cost : l.steps ≤ l.initial.steps + (l.t - l.from) * length l.bench.circuit.tables;
}
