use Rattle.std.proofs.Common.{◌≡◌, ◌<◌, ℕ}
use Rattle.circuit.specs.Order.{net_at}
use Rattle.coverage_claim.specs.Rules.{LieIn, Sets}
use Rattle.coverage_claim.specs.Stretch.{AreSo, Stretch, Values}
use Rattle.region_search.specs.Going.{AreFor, AreSites, GoesOn}
use Rattle.region_search.proofs.search.Search.agrees.Given as goal

abbrev pub invariant-loop-net : goal.invariant-loop-net
invariant-loop-net l = record {
  trial : AreFor l.watchers l.trial;
  frames : l.trial.pair.sets.frames ≡ l.initial.trial.pair.sets.frames;
  same : (s : Stretch) (bounds q : Sets) → AreSites l.watchers s.region l.sites → GoesOn l.watchers s bounds q l.self
      → (golden faulty : Values) → AreSo s golden faulty → LieIn s bounds golden faulty → (j : ℕ) → j < l.net-index → golden 0 (net_at l.nets j).0 ≡ faulty 0 (net_at l.nets j).0;
}
