use Rattle.std.proofs.Common.{◌≡◌, ◌∙◌, sym, true, false, length}
use Rattle.std.specs.Prelude.{is_none}
use Rattle.campaign_tables.specs.Counted.{row_in_list}
use Rattle.campaign_tables.proofs.Counting.{find_less, find_none, none_by}
use Rattle.campaign_tables.proofs.counts.first_none.Goals as goal
use Rattle.campaign_plan.proofs.PartNumbers.{find_at}

pub loop-i-init : goal.loop-i-init
loop-i-init c = sym (find_none (λ k. is_none (row_in_list c.args.rows.now k)))

pub returns-then-is_none : goal.returns-then-is_none
returns-then-is_none c =
    let here : is_none (row_in_list c.args.rows.now c.loop-i.i) ≡ true = none_by _ _ c.is_none.ensures ∙ c.if-is_none.true in
    sym (find_at (λ k. is_none (row_in_list c.args.rows.now k)) (length c.args.rows.now) c.loop-i.i c.loop-i-test.true c.loop-i.invariant here)

pub loop-i-preserved : goal.loop-i-preserved
loop-i-preserved c =
    let other : is_none (row_in_list c.args.rows.now c.loop-i.i) ≡ false = none_by _ _ c.is_none.ensures ∙ c.if-is_none.false in
    find_less (λ k. is_none (row_in_list c.args.rows.now k)) c.loop-i.i other ∙ c.loop-i.invariant
