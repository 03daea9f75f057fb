use Rattle.std.proofs.Common.{◌≡◌, ◌<◌, ◌||◌, ℕ, drop}
use Rattle.lane_words.specs.Loads.{names}
use Rattle.place_set.specs.Places.{has}
use Rattle.differential_kernel.proofs.note.note_lane.Given as goal

-- what is left names what all of them do
abbrev pub invariant-loop-fault : goal.invariant-loop-fault
invariant-loop-fault l = record {
  bound : l.set.bound ≡ l.initial.set.bound;
  has : (n : ℕ) → n < l.initial.set.bound → (names (drop l.fault-index l.faults) n || has l.set n) ≡ (names l.faults n || has l.initial.set n);
}
