use Rattle.std.proofs.Common.{◌≡◌, ◌<◌, ℕ, Bool, false, length}
use Rattle.circuit.specs.Order.{net_at}
use Rattle.coverage_claim.specs.Rules.{MayGo, Sets}
use Rattle.coverage_claim.specs.Stretch.{Stretch}
use Rattle.pair_sets.specs.Choice.{set_at}
use Rattle.pair_sets.specs.Pairs.{has}
use Rattle.region_search.specs.Going.{GoesOn, IsFor, IsFurther, sets_of}
use Rattle.region_search.specs.Steps.{AreCut}
use Rattle.region_search.proofs.search.Search.narrow_all.Given as goal

abbrev pub invariant-loop-i : goal.invariant-loop-i
invariant-loop-i l = record {
  fits : IsFor l.watchers l.self;
  frames : l.self.sets.frames ≡ l.initial.self.sets.frames;
  sets : AreCut l.frame (λ i. (net_at l.nets i).0) (λ i. has (set_at l.lefts i)) l.i (sets_of l.initial.self.sets) (sets_of l.self.sets);
  goes_on : (s : Stretch) (bounds q : Sets) → GoesOn l.watchers s bounds q l.initial.self
      → ((i : ℕ) → i < length l.nets → (a b : Bool) → has (set_at l.lefts i) a b ≡ false → MayGo s q l.frame (net_at l.nets i).0 a b)
      → GoesOn l.watchers s bounds q l.self;
  further : IsFurther l.initial.self l.self;
}
