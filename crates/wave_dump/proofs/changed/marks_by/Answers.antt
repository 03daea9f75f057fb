use Rattle.std.proofs.Common.{◌∙◌, ◌+◌, ap, sym, subst, length, arith}
use Rattle.std.proofs.lemmas.Grind.{common_steps}
use Rattle.circuit.specs.Circuit.{Circuit}
use Rattle.fm_base.proofs.Lists.{written_whole}
use Rattle.wave_dump.specs.Steps.{AreMarks}
use Rattle.wave_dump.proofs.Running.{starts_behind, still_has}
use Rattle.wave_dump.proofs.Showing.{no_marks}
use Rattle.wave_dump.proofs.changed.marks_by.Goals as goal

pub loop-t-init : goal.loop-t-init
loop-t-init g c =
    let nets = c.nets.ensures.count ∙ ap (λ (x : Circuit). length x.drivers) c.netlist.ensures in
    record {
      lanes = still_has c.args.scene.now c.args.order.now c.args.lanes.now c.start.new.self c.start.ensures.keeps c.requires;
      behind = starts_behind c.args.scene.now c.args.order.now c.args.lanes.now c.start.new.self c.requires c.start.ensures.keeps c.start.ensures.cycle c.start.ensures.start;
      marks = no_marks c.args.scene.now c.in_ok-marks.marks.items
          (omega (arith, c.nets.ensures.sound.few, ap (λ (x : Circuit). length x.drivers) c.netlist.ensures))
          (grind (arith, common_steps, nets)) (λ net lt. grind (arith, common_steps, nets));
    }

pub loop-t-preserved : goal.loop-t-preserved
loop-t-preserved g c =
    let w = c.args.scene.now in
    let t = c.loop-t.t in
    let whole = written_whole c.mark.new.marks c.loop-t.marks.items c.loop-t.marks.len (grind (arith, common_steps)) (grind (arith, common_steps)) in
    record {
      lanes = still_has w c.args.order.now c.loop-t.lanes c.run_next.new.lanes c.run_next.ensures.keeps c.loop-t.invariant.lanes;
      behind = c.run_next.ensures.behind;
      marks = subst (AreMarks w (t + 1)) (sym whole)
          (c.mark.ensures t c.run_next.ensures.now (subst (AreMarks w t) (sym c.deref_mut.ensures.value) c.loop-t.invariant.marks));
    }
