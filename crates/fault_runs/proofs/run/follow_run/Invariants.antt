use Rattle.std.proofs.Common.{◌≡◌, ◌<◌, ◌≤◌, ◌+◌, ◌-◌, ◌*◌, ℕ, false, length}
use Rattle.std.specs.Int.{div_ceil}
use Rattle.workload.specs.Runs.{cycles_of, run_at}
use Rattle.lane_words.specs.Loads.{loaded_faults}
use Rattle.place_set.specs.Places.{has}
use Rattle.testbench.specs.Load.{load_of}
use Rattle.fault_runs.specs.Followed.{AreActiveStanding, IsFollowed}
use Rattle.fault_runs.specs.Records.{AreRecordsFor, record_of}
use Rattle.fault_runs.specs.Stretch.{state_at}
use Rattle.fault_runs.proofs.run.follow_run.Given as goal

-- the faults that are still followed stand before the next cycle, and the others were followed
abbrev pub invariant-clock : goal.invariant-clock
invariant-clock g l = record {
  within : l.t ≤ cycles_of (run_at l.bench.runs l.run);
  load : load_of l.lanes ≡ load_of l.initial.lanes;
  active : l.active.bound ≡ length l.draw;
  bound : (i : ℕ) → i < length l.initial.states → (state_at l.states i).bound ≡ length l.bench.circuit.latches;
  faults : l.records.faults ≡ l.initial.records.faults;
  fit : AreRecordsFor l.bench.points l.records;
  stand : AreActiveStanding l.bench.circuit l.bench.points (run_at l.bench.runs l.run) l.draw l.active l.t l.states l.records;
  followed : (i : ℕ) → i < length l.draw → has l.active i ≡ false
      → IsFollowed l.bench.circuit l.bench.points (run_at l.bench.runs l.run) (loaded_faults l.draw i) (g.R.LeavingRule.may_leave l.rule i (run_at l.bench.runs l.run).kind) (record_of l.records i);
  cost : l.steps ≤ l.initial.steps + div_ceil (length l.draw) g.W.Word.lanes * (l.t * length l.bench.circuit.tables);
}

-- the cycles that are left
abbrev pub decreases-clock : goal.decreases-clock
decreases-clock g l = cycles_of (run_at l.bench.runs l.run) - l.t
