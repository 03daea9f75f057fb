use Rattle.std.proofs.Common.{◌≡◌, ◌-◌, ◌⊎◌, ℕ, true, false}
use Rattle.lane_words.specs.Loads.{loaded_faults}
use Rattle.place_set.specs.Places.{has}
use Rattle.fault_runs.specs.Over.{AreOver}
use Rattle.fault_runs.specs.Records.{record_of}
use Rattle.fault_runs.specs.Stretch.{state_at}
use Rattle.fault_runs.proofs.leaving.leave_active.Given as goal

-- nothing more comes of each fault that is gone, or the rule lets it go
abbrev pub invariant-faults : goal.invariant-faults
invariant-faults g l = record {
  bound : l.active.bound ≡ l.initial.active.bound;
  stays : (i : ℕ) → has l.active i ≡ true → has l.initial.active i ≡ true;
  leaves : (i : ℕ) → has l.initial.active i ≡ true → has l.active i ≡ false
      → AreOver (loaded_faults l.draw i) l.cycles (state_at l.states i) ⊎ g.R.LeavingRule.may_leave l.rule i l.kind l.cycles (record_of l.records i);
}

-- the faults that are left
abbrev pub decreases-faults : goal.decreases-faults
decreases-faults g l = l.initial.active.bound - l.from
