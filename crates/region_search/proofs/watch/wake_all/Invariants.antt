use Rattle.std.proofs.Common.{◌≡◌, ◌+◌, ◌<◌, ℕ, true}
use Rattle.std.specs.Prelude.{slice_index}
use Rattle.place_set.specs.Places.{has}
use Rattle.region_search.proofs.watch.wake_all.Given as goal

abbrev pub invariant-loop-reader : goal.invariant-loop-reader
invariant-loop-reader l = record {
  bound : l.waiting.bound ≡ l.initial.waiting.bound;
  stays : (place : ℕ) → has l.initial.waiting place ≡ true → has l.waiting place ≡ true;
  woken : (i : ℕ) → i < l.reader-index → has l.waiting (l.first + slice_index l.readers i) ≡ true;
}
