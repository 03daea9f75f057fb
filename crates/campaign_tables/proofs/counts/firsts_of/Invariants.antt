use Rattle.campaign_tables.specs.Counted.{AreFirsts}
use Rattle.campaign_tables.proofs.counts.firsts_of.Given as goal

abbrev pub invariant-loop-i : goal.invariant-loop-i
invariant-loop-i l = AreFirsts l.n l.i l.rows l.firsts.items
