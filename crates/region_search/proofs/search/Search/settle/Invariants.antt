use Rattle.std.proofs.Common.{◌≡◌}
use Rattle.coverage_claim.specs.Largest.{AreAmong}
use Rattle.coverage_claim.specs.Rules.{Sets}
use Rattle.coverage_claim.specs.Stretch.{Stretch}
use Rattle.region_search.specs.Going.{AreSites, GoesOn, IsFor, sets_of}
use Rattle.region_search.specs.Work.{work_left}
use Rattle.region_search.proofs.search.Search.settle.Given as goal

abbrev pub invariant-places : goal.invariant-places
invariant-places l = record {
  fits : IsFor l.watchers l.self;
  frames : l.self.sets.frames ≡ l.initial.self.sets.frames;
  goes_on : (s : Stretch) (bounds : Sets) → AreSites l.watchers s.region l.sites → GoesOn l.watchers s bounds (sets_of l.initial.self.sets) l.initial.self
      → GoesOn l.watchers s bounds (sets_of l.self.sets) l.self;
  among : (s : Stretch) (bounds : Sets) → AreSites l.watchers s.region l.sites → GoesOn l.watchers s bounds (sets_of l.initial.self.sets) l.initial.self
      → AreAmong s (sets_of l.self.sets) (sets_of l.initial.self.sets);
}

abbrev pub decreases-places : goal.decreases-places
decreases-places l = work_left l.self.sets.sets.items l.self.waiting
