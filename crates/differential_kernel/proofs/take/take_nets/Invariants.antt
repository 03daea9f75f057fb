use Rattle.std.proofs.Common.{◌≡◌, ◌<◌, ◌≤◌, ◌-◌, ℕ, false}
use Rattle.circuit.specs.Value.{bit_at}
use Rattle.lane_words.specs.Gates.{plane}
use Rattle.differential_kernel.specs.Differences.{AreSameOff}
use Rattle.differential_kernel.specs.Picked.{picked}
use Rattle.differential_kernel.specs.Shown.{shown_of}
use Rattle.differential_kernel.proofs.take.take_nets.Given as goal

abbrev pub decreases-places : goal.decreases-places
decreases-places g l = l.others.own.touched.bound - l.from

-- the words so far are taken over, and nothing differs in the others
abbrev pub invariant-places : goal.invariant-places
invariant-places g l = record {
  bound : l.set.bound ≡ l.initial.set.bound;
  done : (place n : ℕ) → place < g.W.Word.lanes → n < l.from
      → bit_at (plane g.W.Word.lane_bit place l.words) n ≡ picked l.picks (λ lane. shown_of g.V.Word.lane_bit l.others lane n) place;
  rest : (place n : ℕ) → place < g.W.Word.lanes → l.from ≤ n → bit_at (plane g.W.Word.lane_bit place l.words) n ≡ false;
  same : AreSameOff g.W.Word.lanes g.W.Word.lane_bit l.set l.words;
}
