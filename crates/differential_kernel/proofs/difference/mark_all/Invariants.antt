use Rattle.std.proofs.Common.{◌≡◌, ◌<◌, ℕ, true, get_or}
use Rattle.place_set.specs.Places.{has}
use Rattle.differential_kernel.specs.Differences.{Grows}
use Rattle.differential_kernel.proofs.difference.mark_all.Given as goal

abbrev pub invariant-loop-place : goal.invariant-loop-place
invariant-loop-place l = record {
  bound : l.marks.bound ≡ l.initial.marks.bound;
  kept : Grows l.initial.marks l.marks;
  marked : (i : ℕ) → i < l.place-index → has l.marks (get_or l.places i 0) ≡ true;
}
