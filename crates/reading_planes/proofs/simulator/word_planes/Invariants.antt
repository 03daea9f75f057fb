use Rattle.std.proofs.Common.{◌≡◌, List, length}
use Rattle.std.specs.List.{All}
use Rattle.campaign_plan.specs.declared.Outcome.{Outcome}
use Rattle.reading_planes.proofs.simulator.word_planes.Given as goal

-- so many so far, each for the readings
abbrev pub invariant-loop : goal.invariant-loop
invariant-loop l = record {
  count : length l.planes.items ≡ l.counter;
  fit : All (λ (os : List Outcome). length os ≡ length l.readings) l.planes.items;
}
