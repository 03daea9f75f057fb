use Rattle.std.proofs.Common.{◌≡◌, ◌<◌, ◌||◌, ℕ, drop}
use Rattle.circuit.specs.Effects.{has_flip}
use Rattle.lane_words.specs.Loads.{somes}
use Rattle.place_set.specs.Places.{has}
use Rattle.differential_kernel.specs.Differences.{Grows}
use Rattle.differential_kernel.proofs.note.note_flips.Given as goal

-- what is left flips the latches that all of them do
abbrev pub invariant-loop-fault : goal.invariant-loop-fault
invariant-loop-fault l = record {
  bound : l.set.bound ≡ l.initial.set.bound;
  kept : Grows l.initial.set l.set;
  has : (p : ℕ) → p < l.initial.set.bound
      → (has_flip (somes (drop l.fault-index l.faults)) p l.cycle || has l.set p) ≡ (has_flip (somes l.faults) p l.cycle || has l.initial.set p);
}
