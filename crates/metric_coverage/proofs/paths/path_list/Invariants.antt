use Rattle.std.proofs.Common.{◌≡◌, ◌<◌, ℕ, length}
use Rattle.circuit.specs.Value.{bit_at}
use Rattle.campaign_plan.specs.Analysis.{fault_numbered}
use Rattle.coverage.specs.Evidence.{may_reach}
use Rattle.metric_coverage.specs.Paths.{with_points}
use Rattle.metric_coverage.proofs.paths.path_list.Given as goal

-- the bits of the faults so far
abbrev pub invariant-loop-i : goal.invariant-loop-i
invariant-loop-i l = record {
  count : length l.list.items ≡ l.i;
  each : (m : ℕ) → m < l.i → bit_at l.list.items m ≡ may_reach (with_points l.plan l.reach.points) (fault_numbered l.plan m);
}
