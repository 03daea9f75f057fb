use Rattle.std.proofs.Common.{arith, refl, sym, ◌∙◌}
use Rattle.std.proofs.lemmas.Grind.{common_steps}
use Rattle.fm_base.specs.Firsts.{first_after}
use Rattle.fm_base.proofs.Distinct.{distinct-nil}
use Rattle.blif_model.specs.Walk.{clock_names}
use Rattle.blif_model.specs.WalkFault.{two_clocks}
use Rattle.blif_flatten.specs.Flat.{name_at, step_by}
use Rattle.blif_reader.proofs.ClockMarks.{clock_fault, step_clocks}
use Rattle.blif_reader.proofs.FlatSteps.{none_left, pass_line}
use Rattle.blif_reader.proofs.clocks.two_clocks.Goals as goal

pub loop-place-init : goal.loop-place-init
unfolding two_clocks clock_names
loop-place-init c = record { keeps = record { types = distinct-nil; clocks = distinct-nil }; left = refl }

pub returns-then-has_second : goal.returns-then-has_second
returns-then-has_second c =
    let s = step_by (name_at c.args.flat.now.names) c.step_at-step.result.now in
    let told = step_clocks s _ _ c.loop-place.invariant.keeps in
    rw (told.0, ← c.has_second.ensures.second, c.if-has_second.true) at (pass_line clock_fault c.step_at-step.ensures c.loop-place.invariant.left)

pub loop-place-preserved : goal.loop-place-preserved
loop-place-preserved c =
    let s = step_by (name_at c.args.flat.now.names) c.step_at-step.result.now in
    let told = step_clocks s _ _ c.loop-place.invariant.keeps in
    record {
      keeps = rw (c.step_at-step.ensures.done, c.has_second.ensures.kept c.if-has_second.false)
          (told.1 (sym c.has_second.ensures.second ∙ c.if-has_second.false));
      left = rw (told.0, ← c.has_second.ensures.second, c.if-has_second.false) at (pass_line clock_fault c.step_at-step.ensures c.loop-place.invariant.left);
    }

pub returns : goal.returns
unfolding first_after
returns c = rw (none_left c.args.flat.now c.loop-place.place (grind (arith, common_steps))) at c.loop-place.invariant.left
