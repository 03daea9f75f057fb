use Rattle.std.proofs.Common.{take}
use Rattle.campaign_tables.specs.Counted.{AreRowCounts}
use Rattle.campaign_tables.proofs.counts.counts_of.Given as goal

abbrev pub invariant-loop-row : goal.invariant-loop-row
invariant-loop-row l = AreRowCounts l.n (take l.row-index l.rows) l.counts.items
