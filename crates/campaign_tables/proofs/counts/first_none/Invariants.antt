use Rattle.std.proofs.Common.{◌≡◌}
use Rattle.std.specs.Prelude.{find, is_none, None}
use Rattle.fm_base.specs.Lists.{below}
use Rattle.campaign_tables.specs.Counted.{row_in_list}
use Rattle.campaign_tables.proofs.counts.first_none.Given as goal

abbrev pub invariant-loop-i : goal.invariant-loop-i
invariant-loop-i l = find (λ k. is_none (row_in_list l.rows k)) (below l.i) ≡ None
