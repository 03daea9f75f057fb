use Rattle.std.proofs.Common.{sym, ◌∙◌}
use Rattle.blif_hierarchy.proofs.Numbers.{ring_end, ring_step}
use Rattle.blif_hierarchy.proofs.numbered.ring_line.Goals as goal

pub returns-in-Some : goal.returns-in-Some
returns-in-Some c = λ f e.
    let found = c.in-Some.ensures f e in
    sym (ring_step c.args.models.now f _ c.lines-model-items.ensures c.args.numbers.now e c.loop-place.place _ c.model-item.result _
    c.loop-place-test.true c.model-item.is c.number_at-own.ensures found) ∙ c.loop-place.invariant f e

pub loop-place-preserved : goal.loop-place-preserved
loop-place-preserved c = λ f e.
    let found = c.in_default.ensures f e in
    sym (ring_step c.args.models.now f _ c.lines-model-items.ensures c.args.numbers.now e c.loop-place.place _ c.model-item.result _
    c.loop-place-test.true c.model-item.is c.number_at-own.ensures found) ∙ c.loop-place.invariant f e

pub returns : goal.returns
returns c = λ f e.
    sym (ring_end c.args.models.now f _ c.lines-model-items.ensures c.loop-place.place c.loop-place-test.false) ∙ c.loop-place.invariant f e
