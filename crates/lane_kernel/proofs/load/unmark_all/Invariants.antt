use Rattle.std.proofs.Common.{◌≡◌, ◌<◌, ℕ, false, cond, length, drop}
use Rattle.circuit.specs.Value.{bit_at}
use Rattle.lane_words.specs.Loads.{some_names}
use Rattle.lane_kernel.proofs.load.unmark_all.Given as goal

-- only nets that what is left names are marked
abbrev pub invariant-loop-faults : goal.invariant-loop-faults
invariant-loop-faults l = (n : ℕ) → n < length l.marks → cond (some_names (drop l.faults-index l.loads) n) false (bit_at l.marks n) ≡ false
