use Rattle.std.proofs.Common.{◌≡◌}
use Rattle.coverage_claim.specs.Rules.{Sets}
use Rattle.coverage_claim.specs.Stretch.{Stretch}
use Rattle.region_search.specs.Going.{AreSites, GoesOn, IsFor, sets_of}
use Rattle.region_search.proofs.search.Search.split_all.Given as goal

abbrev pub invariant-loop-net : goal.invariant-loop-net
invariant-loop-net l = record {
  fits : IsFor l.watchers l.self;
  frames : l.self.sets.frames ≡ l.initial.self.sets.frames;
  case : IsFor l.watchers l.case;
  case_frames : l.case.sets.frames ≡ l.initial.case.sets.frames;
  goes_on : (s : Stretch) (bounds : Sets) → AreSites l.watchers s.region l.sites → GoesOn l.watchers s bounds (sets_of l.initial.self.sets) l.initial.self
      → GoesOn l.watchers s bounds (sets_of l.self.sets) l.self;
}
