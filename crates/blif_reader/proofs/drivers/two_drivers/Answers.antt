use Rattle.std.proofs.Common.{◌∙◌, ap, arith, List, map, refl, sym}
use Rattle.std.proofs.lemmas.Grind.{common_steps}
use Rattle.std.proofs.lemmas.List.{append-nil}
use Rattle.fm_base.specs.Firsts.{first_after}
use Rattle.fm_base.specs.Names.{Name, is_one_of}
use Rattle.blif_model.specs.Walk.{clock_names, drives_of}
use Rattle.blif_model.specs.WalkSteps.{is_clock}
use Rattle.blif_model.specs.WalkFault.{two_drivers}
use Rattle.blif_flatten.specs.Flattened.{flat_steps}
use Rattle.blif_reader.specs.Passes.{settled}
use Rattle.blif_reader.proofs.Driving.{driver_answer, drives_at, step_drives}
use Rattle.blif_reader.proofs.FlatSteps.{all_done, given_so_far, none_left, pass_step}
use Rattle.blif_reader.proofs.drivers.two_drivers.Goals as goal

pub loop-place-init : goal.loop-place-init
unfolding two_drivers drives_of
loop-place-init c =
    let flat = c.args.flat.now in
    record {
      marks =
          c.requires.driven ∙ c.requires.clocks ∙ ap (map (is_clock (flat_steps flat))) (sym flat.is_flat.first)
          ∙ ap (λ (texts : List Name). map (is_one_of texts) flat.names) (sym (append-nil (clock_names (flat_steps flat))));
      left = refl;
    }

pub returns-then-drive_act-clause-fault : goal.returns-then-drive_act-clause-fault
returns-then-drive_act-clause-fault c =
    let steps = flat_steps c.args.flat.now in
    let here = c.step_at-step.ensures in
    let told = step_drives c.args.flat.now _ c.args.clocks.now _ here c.requires.clocks c.loop-place.invariant.marks in
    rw (told.0, ← c.drive_act.ensures.twice, c.if-drive_act.true) at (pass_step (driver_answer steps) (drives_at steps) here c.loop-place.invariant.left)

pub loop-place-preserved : goal.loop-place-preserved
loop-place-preserved c =
    let steps = flat_steps c.args.flat.now in
    let here = c.step_at-step.ensures in
    let told = step_drives c.args.flat.now _ c.args.clocks.now _ here c.requires.clocks c.loop-place.invariant.marks in
    record {
      marks = rw (given_so_far (drives_at steps) here) (c.drive_act.ensures.grown c.if-drive_act.false ∙ told.1);
      left = rw (told.0, ← c.drive_act.ensures.twice, c.if-drive_act.false) at (pass_step (driver_answer steps) (drives_at steps) here c.loop-place.invariant.left);
    }

pub returns-clause-fault : goal.returns-clause-fault
unfolding first_after
returns-clause-fault c = rw (none_left c.args.flat.now c.loop-place.place (grind (arith, common_steps))) at c.loop-place.invariant.left

pub returns-clause-driven : goal.returns-clause-driven
unfolding drives_of
returns-clause-driven c = λ none.
    let flat = c.args.flat.now in
    let marks = rw (all_done flat c.loop-place.place (grind (arith, common_steps))) at c.loop-place.invariant.marks in
    marks ∙ ap (map (is_one_of (settled (flat_steps flat) (drives_of (flat_steps flat))))) flat.is_flat.first
