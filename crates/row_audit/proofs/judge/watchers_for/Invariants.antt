use Rattle.std.proofs.Common.{◌≡◌, length}
use Rattle.std.specs.List.{All}
use Rattle.row_audit.specs.Watched.{IsAtHand}
use Rattle.row_audit.proofs.judge.watchers_for.Given as goal

abbrev pub invariant-loop : goal.invariant-loop
invariant-loop l = record {
  each : All (IsAtHand l.bench.net.now l.bench.points.now l.bench.ftti l.bench.work.now l.bench.faults.now) l.watchers.items;
  count : length l.watchers.items ≡ l.counter;
}
