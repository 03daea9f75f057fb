use Rattle.std.proofs.Common.{◌≡◌, ◌<◌, ◌≤◌, ◌-◌, ◌&&◌, ℕ, not}
use Rattle.circuit.specs.Value.{bit_at}
use Rattle.lane_words.specs.Gates.{plane}
use Rattle.differential_kernel.specs.Shown.{told_in}
use Rattle.differential_kernel.proofs.drop.keep_values.Given as goal

abbrev pub decreases-places : goal.decreases-places
decreases-places g l = l.set.bound - l.from

-- at the places so far nothing is left in the lanes, and the others are as they were
abbrev pub invariant-places : goal.invariant-places
invariant-places g l = record {
  done : (k n : ℕ) → k < g.W.Word.lanes → n < l.from
      → told_in g.W.Word.lane_bit k l.row l.set l.values n ≡ (not (g.W.Word.lane_bit l.fn.out k) && told_in g.W.Word.lane_bit k l.row l.set l.initial.values n);
  rest : (k n : ℕ) → l.from ≤ n → bit_at (plane g.W.Word.lane_bit k l.values) n ≡ bit_at (plane g.W.Word.lane_bit k l.initial.values) n;
}
