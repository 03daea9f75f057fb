use Rattle.std.proofs.Common.{◌≡◌, ◌<◌, ℕ, length}
use Rattle.metric_coverage.specs.Turns.{turn_at}
use Rattle.metric_coverage.proofs.worker.room_for_turns.Given as goal

-- there is room for the turns so far
abbrev pub invariant-loop : goal.invariant-loop
invariant-loop l = record {
  count : length l.kept.items ≡ l.counter;
  room : (turn : ℕ) → turn < l.counter → length (turn_at l.kept.items turn) ≡ l.readings;
}
