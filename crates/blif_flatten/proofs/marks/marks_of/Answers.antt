use Rattle.std.proofs.Common.{◌∙◌, ap, false, length, ℕ, arith}
use Rattle.std.specs.Prelude.{replicate}
use Rattle.std.proofs.lemmas.Grind.{common_steps}
use Rattle.std.proofs.lemmas.List.{length-map}
use Rattle.fm_base.proofs.Lists.{written_whole}
use Rattle.blif_flatten.specs.Flat.{name_at}
use Rattle.blif_flatten.specs.Sorts.{ids_of, names_by}
use Rattle.blif_flatten.proofs.Marking.{mark_step, mark_none, step_within}
use Rattle.blif_flatten.proofs.marks.marks_of.Goals as goal

pub loop-step-init : goal.loop-step-init
unfolding names_by
loop-step-init c =
    c.in_ok-marks.ensures.items ∙ ap (λ (n : ℕ). replicate n false) c.len.ensures
    ∙ mark_none c.args.flat.now.names

pub mark-requires : goal.mark-requires
mark-requires c =
    let flat = c.args.flat.now in
    let lt = rw c.as_slice-step-items.ensures.value at c.loop-step-test.true in
    let is = rw c.as_slice-step-items.ensures.value at c.step-item.is in
    let below = step_within flat.names flat.steps.items c.loop-step.step-index c.step-item.result flat.is_flat lt is in
    rw (c.as_mut_slice.ensures.value, c.loop-step.invariant, length-map) (c.mentions_in.ensures.within (length flat.names) below)

pub loop-step-preserved : goal.loop-step-preserved
loop-step-preserved c =
    let flat = c.args.flat.now in
    let lt = rw c.as_slice-step-items.ensures.value at c.loop-step-test.true in
    let is = rw c.as_slice-step-items.ensures.value at c.step-item.is in
    let within = c.mentions_in.ensures.within (length flat.names) in
    let names = c.mentions_in.ensures.names (name_at flat.names) in
    let marked = rw c.as_mut_slice.ensures.value at c.mark.ensures in
    written_whole c.mark.new.marks c.loop-step.marks.items c.loop-step.marks.len (grind (arith, common_steps)) (grind (arith, common_steps))
    ∙ mark_step c.args.sort flat.names flat.steps.items c.loop-step.step-index c.step-item.result (ids_of c.mentions_in.result)
    c.loop-step.marks.items c.mark.new.marks flat.is_flat lt is names within c.loop-step.invariant marked
