use Rattle.std.proofs.Common.{◌≡◌, ◌<◌, ℕ, length}
use Rattle.latency_table.specs.Work.{group_at}
use Rattle.latency_table.proofs.worker.groups_for.Given as goal

-- there is room for the groups so far
abbrev pub invariant-loop : goal.invariant-loop
invariant-loop l = record {
  count : length l.groups.items ≡ l.counter;
  room : (round : ℕ) → round < l.counter → length (group_at l.groups.items round) ≡ 1024;
}
