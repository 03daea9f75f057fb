use Rattle.std.proofs.Common.{◌≡◌, ◌+◌, min, take}
use Rattle.std.specs.Prelude.{sum_by, slice_index}
use Rattle.blif_hierarchy.proofs.rounds.capped_sum.Given as goal

abbrev pub invariant-loop-k : goal.invariant-loop-k
invariant-loop-k l = l.total ≡ min l.cap (l.own + sum_by (λ k. slice_index l.before k) (take l.k-index l.callees))
