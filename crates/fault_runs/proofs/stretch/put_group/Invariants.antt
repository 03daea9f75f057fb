use Rattle.std.proofs.Common.{◌≡◌, ◌<◌, ◌≤◌, ℕ, Bool, List, [], length}
use Rattle.golden_difference.specs.Beside.{AreBetween, IsStateOf}
use Rattle.golden_difference.specs.Lanes.{KeepsLoads}
use Rattle.lane_words.specs.Loads.{loaded_faults}
use Rattle.fault_runs.specs.First.{fault_in}
use Rattle.fault_runs.specs.Stretch.{state_at}
use Rattle.fault_runs.proofs.stretch.put_group.Given as goal

-- the lanes so far have their faults, and the others none
abbrev pub invariant-loop-lane : goal.invariant-loop-lane
invariant-loop-lane g l = record {
  keeps : KeepsLoads l.initial.lanes l.lanes;
  cycle : l.lanes.cycle ≡ l.initial.lanes.cycle;
  put : (k : ℕ) → k < l.lane → loaded_faults l.lanes.in_force k ≡ loaded_faults l.draw (fault_in l.group k);
  empty : (k : ℕ) → l.lane ≤ k → k < g.W.Word.lanes → loaded_faults l.lanes.in_force k ≡ [];
  between : (vectors : List (List Bool)) → AreBetween g.W.Word.lanes g.W.Word.lane_bit vectors l.initial.lanes
      → ((k : ℕ) → k < length l.group → IsStateOf l.initial.lanes.circuit (loaded_faults l.draw (fault_in l.group k)) vectors (state_at l.states (fault_in l.group k)))
      → AreBetween g.W.Word.lanes g.W.Word.lane_bit vectors l.lanes;
}
