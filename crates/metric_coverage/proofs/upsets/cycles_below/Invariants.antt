use Rattle.std.proofs.Common.{◌≡◌, ◌≤◌, take}
use Rattle.std.specs.Prelude.{count_by, nat_lt}
use Rattle.metric_coverage.proofs.upsets.cycles_below.Given as goal

-- those so far are below the bound
abbrev pub invariant-loop-k : goal.invariant-loop-k
invariant-loop-k l = record {
  count : count_by (λ cycle. nat_lt cycle l.bound) (take l.k l.cycles) ≡ l.k;
  few : l.k ≤ l.bound;
}
