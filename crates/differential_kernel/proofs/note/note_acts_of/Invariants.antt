use Rattle.std.proofs.Common.{◌≡◌, ◌<◌, ◌||◌, ℕ, drop}
use Rattle.place_set.specs.Places.{has}
use Rattle.differential_kernel.specs.Forces.{acts}
use Rattle.differential_kernel.proofs.note.note_acts_of.Given as goal

-- what is left acts in the cycles in which all of them do
abbrev pub invariant-loop-fault : goal.invariant-loop-fault
invariant-loop-fault l = record {
  bound : l.set.bound ≡ l.initial.set.bound;
  has : (t : ℕ) → t < l.initial.set.bound → (acts (drop l.fault-index l.faults) t || has l.set t) ≡ (acts l.faults t || has l.initial.set t);
}
