use Rattle.std.proofs.Common.{◌≡◌, ◌<◌, ◌≤◌, ◌-◌, ℕ, false}
use Rattle.circuit.specs.Value.{bit_at}
use Rattle.lane_words.specs.Gates.{plane}
use Rattle.place_set.specs.Places.{has}
use Rattle.differential_kernel.proofs.group.keep_state.Given as goal

abbrev pub decreases-latches : goal.decreases-latches
decreases-latches g l = l.latches.live.bound - l.from

-- the set has the latches so far that differ, and no other
abbrev pub invariant-latches : goal.invariant-latches
invariant-latches g l = record {
  bound : l.state.bound ≡ l.initial.state.bound;
  done : (n : ℕ) → n < l.from → has l.state n ≡ bit_at (plane g.W.Word.lane_bit l.lane l.latches.raw.items) n;
  rest : (n : ℕ) → l.from ≤ n → has l.state n ≡ false;
}
