use Rattle.std.proofs.Common.{◌≡◌, ℕ, ◌<◌, length}
use Rattle.campaign_plan.specs.Making.{analysis}
use Rattle.campaign_plan.specs.Shares.{share_at, full_share}
use Rattle.campaign_plan.proofs.shares.shares.Given as goal

abbrev pub invariant-loop-k : goal.invariant-loop-k
invariant-loop-k l = record {
  size : length l.shares.items ≡ l.k;
  each : (k : ℕ) → k < l.k → share_at l.shares.items k ≡ full_share (analysis l.p) l.permanent k;
}
