use Rattle.std.proofs.Common.{◌≡◌, ◌<◌, ◌≤◌, ◌-◌, ℕ, false, length, get_or}
use Rattle.lane_words.specs.declared.force.Force.{Force}
use Rattle.lane_words.specs.Forces.{force_value}
use Rattle.place_set.specs.Places.{has}
use Rattle.differential_kernel.proofs.note.find_changes.Given as goal

abbrev pub decreases-nets : goal.decreases-nets
decreases-nets g l = l.named.bound - l.from

-- of the nets so far, those whose force changes the value are in the set
abbrev pub invariant-nets : goal.invariant-nets
invariant-nets g l = record {
  within : l.from ≤ l.named.bound;
  bound : l.set.bound ≡ l.initial.set.bound;
  done : (k n : ℕ) (d : Force g.row.W.Denot) → k < g.W.Word.lanes → n < l.from → n < length l.forces → has l.set n ≡ false
      → force_value g.W.Word.lane_bit k (get_or l.forces n d) l.value ≡ l.value;
}
