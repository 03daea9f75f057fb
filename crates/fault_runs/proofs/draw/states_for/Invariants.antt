use Rattle.std.proofs.Common.{◌≡◌, ◌<◌, ℕ, length}
use Rattle.fault_runs.specs.Stretch.{state_at}
use Rattle.fault_runs.proofs.draw.states_for.Given as goal

-- those so far are of so many latches
abbrev pub invariant-loop : goal.invariant-loop
invariant-loop l = record {
  count : length l.states.items ≡ l.counter;
  bound : (i : ℕ) → i < l.counter → (state_at l.states.items i).bound ≡ l.latches;
}
