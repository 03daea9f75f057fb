use Rattle.std.proofs.Common.{◌≡◌, ◌<◌, ℕ, true, get_or}
use Rattle.place_set.specs.Places.{has}
use Rattle.golden_run.proofs.values.mark_all.Given as goal

-- the places so far are marked, where they are those of tables
abbrev pub invariant-loop-place : goal.invariant-loop-place
invariant-loop-place l = record {
  bound : l.marks.bound ≡ l.initial.marks.bound;
  kept : (p : ℕ) → has l.initial.marks p ≡ true → has l.marks p ≡ true;
  marked : (i : ℕ) → i < l.place-index → get_or l.places i 0 < l.initial.marks.bound → has l.marks (get_or l.places i 0) ≡ true;
}
