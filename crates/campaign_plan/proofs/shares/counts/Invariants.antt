use Rattle.std.proofs.Common.{take}
use Rattle.campaign_plan.specs.Analysis.{all_faults}
use Rattle.campaign_plan.specs.Making.{analysis}
use Rattle.campaign_plan.specs.Shares.{ArePartCounts}
use Rattle.campaign_plan.proofs.shares.counts.Given as goal

abbrev pub invariant-loop-i : goal.invariant-loop-i
invariant-loop-i l = ArePartCounts (analysis l.p) l.permanent (take l.i (all_faults (analysis l.p))) l.counts.items
