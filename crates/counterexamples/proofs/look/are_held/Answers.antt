use Rattle.std.proofs.Common.{◌≡◌, ◌<◌, ◌≤◌, Bool, false, List, [], length, subst, arith, take_all}
use Rattle.std.specs.Prelude.{All, None, Some}
use Rattle.std.proofs.lemmas.List.{get_or_default}
use Rattle.std.proofs.lemmas.List.Elements.{All-more}
use Rattle.circuit.specs.Trace.{trace}
use Rattle.coverage_claim.specs.Stretch.{held_at}
use Rattle.coverage_claim.specs.declared.parts.Held.{Held}
use Rattle.counterexamples.proofs.look.are_held.Goals as goal

pub loop-input-preserved : goal.loop-input-preserved
loop-input-preserved c = λ vectors after size j d lt.
    let held = c.args.held.now in
    let i = c.loop-input.input-index in
    let none : Held = record { net = record { 0 = 0 }; from = 0; before = None; value = false } in
    let within : i < length held = omega arith in
    let has = λ (h : Held). (value : Bool) → held_at h c.args.cycle ≡ Some value → trace c.args.lanes.now.circuit [] vectors c.args.cycle h.net.0 ≡ value in
    All-more has held i d within (c.loop-input.invariant vectors after size) (subst has (get_or_default held i none d within) (c.is_held.ensures c.if-not-is_held.false vectors after size)) j d lt

pub returns : goal.returns
returns c = λ whole vectors after size.
    let held = c.args.held.now in
    let done : length held ≤ c.loop-input.input-index = c.loop-input-test.false in
    subst (λ (hs : List Held). All (λ (h : Held). (value : Bool) → held_at h c.args.cycle ≡ Some value → trace c.args.lanes.now.circuit [] vectors c.args.cycle h.net.0 ≡ value) hs)
    (take_all c.loop-input.input-index held done) (c.loop-input.invariant vectors after size)
