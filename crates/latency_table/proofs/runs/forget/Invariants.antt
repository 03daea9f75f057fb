use Rattle.std.proofs.Common.{◌≡◌, ◌<◌, [], ℕ}
use Rattle.latency_table.specs.Latency.{latency_at}
use Rattle.latency_table.proofs.runs.forget.Given as goal

-- nothing is kept of those so far
abbrev pub invariant-loop-j : goal.invariant-loop-j
invariant-loop-j l = (m : ℕ) → m < l.j → latency_at l.latencies m ≡ latency_at [] 0
