use Rattle.std.proofs.Common.{ℕ, Vec, Global, ◌∙◌}
use Rattle.std.proofs.lemmas.Result.{IfOk-weaker}
use Rattle.blif_hierarchy.proofs.FirstLines.{over_lines}
use Rattle.blif_hierarchy.proofs.Sums.{nests_are}
use Rattle.blif_hierarchy.proofs.nest_faults.nest_numbers.Goals as goal

pub returns : goal.returns
returns c =
    let models = c.args.models.now in
    let own = c.as_slice.ensures.value ∙ c.in_ok-own.ensures ∙ over_lines (λ m. 0) c.lines.result.now models c.lines.ensures in
    let first = c.as_slice-2.ensures.value ∙ c.in_ok-first.ensures ∙ over_lines (λ m. 1) c.lines-2.result.now models c.lines-2.ensures in
    IfOk-weaker _ _ _ (λ (v : Vec ℕ Global). nests_are models c.args.callees.now c.requires _ _ 32 own first v.items) c.after_rounds.ensures
