use Rattle.std.proofs.Common.{◌≡◌, ◌≢◌, ◌<◌, ◌+◌, ℕ, Some, get_or}
use Rattle.std.specs.Prelude.{All}
use Rattle.std.specs.List.{slice_get}
use Rattle.circuit.specs.declared.parts.Latch.{Latch}
use Rattle.region_search.proofs.watch.note_latches.Given as goal

abbrev pub invariant-loop-number : goal.invariant-loop-number
invariant-loop-number l = record {
  noted : (k : ℕ) (latch : Latch) → k < l.number → slice_get l.latches k ≡ Some latch → get_or l.own latch.to.0 0 ≡ l.first + k;
  others : (net : ℕ) → All (λ (latch : Latch). latch.to.0 ≢ net) l.latches → get_or l.own net 0 ≡ get_or l.initial.own net 0;
}
