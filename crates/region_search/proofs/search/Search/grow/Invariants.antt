use Rattle.std.proofs.Common.{◌≡◌, ◌<◌, ◌≤◌, ◌+◌, ℕ, Bool, true, false, Some, length}
use Rattle.std.specs.List.{slice_get}
use Rattle.circuit.specs.declared.parts.Latch.{Latch}
use Rattle.coverage_claim.specs.Rules.{LieIn, Sets}
use Rattle.coverage_claim.specs.Stretch.{AreSo, Stretch, Values}
use Rattle.pair_sets.specs.Choice.{set_at}
use Rattle.pair_sets.specs.Pairs.{has}
use Rattle.region_search.specs.Going.{AreFor, AreSites, GoesOn}
use Rattle.region_search.specs.Window.{IsForced, leaves_from}
use Rattle.region_search.specs.Work.{pairs_left}
use Rattle.region_search.proofs.search.Search.grow.Given as goal

abbrev pub invariant-loop-number : goal.invariant-loop-number
invariant-loop-number l = record {
  trial : AreFor l.watchers l.trial;
  frames : l.trial.pair.sets.frames ≡ l.initial.trial.pair.sets.frames;
  size : length l.starts ≡ length l.latches;
  same : l.some ≡ false → l.starts ≡ l.initial.starts;
  keeps : (k : ℕ) (x y : Bool) → has (set_at l.initial.starts k) x y ≡ true → has (set_at l.starts k) x y ≡ true;
  again : l.some ≡ false → (s : Stretch) (bounds q : Sets) → AreSites l.watchers s.region l.sites → GoesOn l.watchers s bounds q l.self
      → (golden faulty : Values) → AreSo s golden faulty → LieIn s bounds golden faulty → (k : ℕ) (latch : Latch) → k < l.number → slice_get l.latches k ≡ Some latch
      → leaves_from (s.region latch.to.0) (has (set_at l.initial.starts k)) (golden 0 latch.from.0) (faulty 0 latch.from.0) ≡ false;
  grows : l.some ≡ true → pairs_left l.initial.starts + 1 ≤ pairs_left l.starts;
  rest : (k : ℕ) → l.number ≤ k → set_at l.starts k ≡ set_at l.initial.starts k;
  forced : (s : Stretch) (bounds q : Sets) → AreSites l.watchers s.region l.sites → GoesOn l.watchers s bounds q l.self
      → (k : ℕ) (latch : Latch) → k < l.number → slice_get l.latches k ≡ Some latch → (x y : Bool) → has (set_at l.starts k) x y ≡ true
      → IsForced s latch (has (set_at l.initial.starts k)) x y;
}
