use Rattle.std.proofs.Common.{◌≡◌, ◌<◌, ℕ, false}
use Rattle.place_set.specs.Places.{has}
use Rattle.fault_runs.specs.Stretch.{state_at}
use Rattle.fault_runs.proofs.start.clear_states.Given as goal

-- the states so far are cleared
abbrev pub invariant-loop-state : goal.invariant-loop-state
invariant-loop-state l = record {
  bound : (i : ℕ) → (state_at l.states i).bound ≡ (state_at l.initial.states i).bound;
  none : (i p : ℕ) → i < l.state-index → has (state_at l.states i) p ≡ false;
}
