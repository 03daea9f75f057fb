use Rattle.std.proofs.Common.{◌≡◌, ◌<◌, ◌||◌, ℕ, drop}
use Rattle.lane_words.specs.Loads.{some_names}
use Rattle.place_set.specs.Places.{has}
use Rattle.differential_kernel.proofs.note.note_lanes.Given as goal

-- what is left names what all of them do
abbrev pub invariant-loop-faults : goal.invariant-loop-faults
invariant-loop-faults l = record {
  bound : l.set.bound ≡ l.initial.set.bound;
  has : (n : ℕ) → n < l.initial.set.bound → (some_names (drop l.faults-index l.loads) n || has l.set n) ≡ (some_names l.loads n || has l.initial.set n);
}
