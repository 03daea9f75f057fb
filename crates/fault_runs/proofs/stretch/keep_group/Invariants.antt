use Rattle.std.proofs.Common.{◌≡◌, ◌<◌, ℕ, Bool, List, length}
use Rattle.std.specs.Prelude.{Option}
use Rattle.circuit.specs.declared.parts.Fault.{Fault}
use Rattle.golden_difference.specs.Beside.{AreBetween, IsStateOf}
use Rattle.lane_words.specs.Loads.{loaded_faults}
use Rattle.fault_runs.specs.First.{IsNotIn, fault_in}
use Rattle.fault_runs.specs.Stretch.{AreInForce, state_at}
use Rattle.fault_runs.proofs.stretch.keep_group.Given as goal

-- the states of the lanes so far are kept
abbrev pub invariant-loop-lane : goal.invariant-loop-lane
invariant-loop-lane g l = record {
  bound : (i : ℕ) → i < length l.initial.states → (state_at l.states i).bound ≡ length l.lanes.circuit.latches;
  kept : (vectors : List (List Bool)) (draw : List (List (Option Fault))) (k : ℕ) → AreBetween g.W.Word.lanes g.W.Word.lane_bit vectors l.lanes
      → AreInForce draw l.group l.lanes.in_force → k < l.lane
      → IsStateOf l.lanes.circuit (loaded_faults draw (fault_in l.group k)) vectors (state_at l.states (fault_in l.group k));
  others : (i : ℕ) → IsNotIn l.group i → state_at l.states i ≡ state_at l.initial.states i;
}
