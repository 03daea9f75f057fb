use Rattle.std.proofs.Common.{◌≡◌, ◌<◌, ◌||◌, ℕ, drop}
use Rattle.place_set.specs.Places.{has}
use Rattle.differential_kernel.specs.Forces.{has_acts}
use Rattle.differential_kernel.proofs.note.note_acts.Given as goal

-- what is left acts in the cycles in which all of them do
abbrev pub invariant-loop-faults : goal.invariant-loop-faults
invariant-loop-faults l = record {
  bound : l.set.bound ≡ l.initial.set.bound;
  has : (t : ℕ) → t < l.initial.set.bound → (has_acts (drop l.faults-index l.loads) t || has l.set t) ≡ (has_acts l.loads t || has l.initial.set t);
}
