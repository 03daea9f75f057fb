use Rattle.std.proofs.Common.{sym, ◌∙◌}
use Rattle.blif_hierarchy.proofs.FirstLines.{first_end, first_step}
use Rattle.blif_hierarchy.proofs.numbered.first_numbered.Goals as goal

pub returns-in-Some : goal.returns-in-Some
returns-in-Some c = λ f e.
    let found = c.in-Some.ensures f e in
    sym (first_step _ c.args.lines.now c.loop-line.line-index c.line-item.result _ c.loop-line-test.true c.line-item.is found)
    ∙ c.loop-line.invariant f e

pub loop-line-preserved : goal.loop-line-preserved
loop-line-preserved c = λ f e.
    let found = c.in_default.ensures f e in
    sym (first_step _ c.args.lines.now c.loop-line.line-index c.line-item.result _ c.loop-line-test.true c.line-item.is found)
    ∙ c.loop-line.invariant f e

pub returns : goal.returns
returns c = λ f e. sym (first_end _ c.args.lines.now c.loop-line.line-index c.loop-line-test.false) ∙ c.loop-line.invariant f e
