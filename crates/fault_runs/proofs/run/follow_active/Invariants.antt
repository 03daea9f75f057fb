use Rattle.std.proofs.Common.{◌≡◌, ◌<◌, ◌≤◌, ◌+◌, ◌-◌, ◌*◌, ℕ, true, false, length, min}
use Rattle.workload.specs.Runs.{cycles_of, run_at}
use Rattle.lane_words.specs.Loads.{loaded_faults}
use Rattle.place_set.specs.Places.{has}
use Rattle.testbench.specs.Load.{load_of}
use Rattle.fault_runs.specs.Records.{AreRecordsFor, IsSameRecord, record_of}
use Rattle.fault_runs.specs.Stretch.{Stands, state_at}
use Rattle.fault_runs.proofs.Groups.{AreGroups}
use Rattle.fault_runs.proofs.run.follow_active.Given as goal

-- the faults before the next have gone through the stretch, and the others stand before it
abbrev pub invariant-groups : goal.invariant-groups
invariant-groups g l = record {
  within : l.next ≤ length l.draw;
  load : load_of l.lanes ≡ load_of l.initial.lanes;
  bound : (i : ℕ) → i < length l.initial.states → (state_at l.states i).bound ≡ length l.bench.circuit.latches;
  faults : l.records.faults ≡ l.initial.records.faults;
  fit : AreRecordsFor l.bench.points l.records;
  done : (i : ℕ) → i < length l.draw → i < l.next → has l.active i ≡ true
      → Stands l.bench.circuit l.bench.points (run_at l.bench.runs l.run) (loaded_faults l.draw i) (min (cycles_of (run_at l.bench.runs l.run)) (l.from + 256)) (state_at l.states i) (record_of l.records i);
  left : (i : ℕ) → i < length l.draw → l.next ≤ i → has l.active i ≡ true
      → Stands l.bench.circuit l.bench.points (run_at l.bench.runs l.run) (loaded_faults l.draw i) l.from (state_at l.states i) (record_of l.records i);
  others : (i : ℕ) → has l.active i ≡ false → IsSameRecord (record_of l.initial.records i) (record_of l.records i);
  cost : AreGroups l.active g.W.Word.lanes (length l.draw) ((min (cycles_of (run_at l.bench.runs l.run)) (l.from + 256) - l.from) * length l.bench.circuit.tables) l.initial.steps l.next l.steps;
}

-- the numbers that are left
abbrev pub decreases-groups : goal.decreases-groups
decreases-groups g l = length l.draw - l.next
