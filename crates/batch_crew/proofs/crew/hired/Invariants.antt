use Rattle.std.proofs.Common.{◌≡◌, length}
use Rattle.batch_crew.specs.Crew.{AreReady}
use Rattle.batch_crew.proofs.crew.hired.Given as goal

abbrev pub invariant-loop : goal.invariant-loop
invariant-loop g l = record {
  count : length l.crew.items ≡ l.counter;
  ready : AreReady (g.A.Rounds.has_done l.analysis) l.workers l.crew.items;
}
