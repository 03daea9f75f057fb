use Rattle.std.proofs.Common.{◌≡◌, false, true, List, length, ap, sym, ◌∙◌, subst, arith}
use Rattle.std.proofs.lemmas.Grind.{common_steps}
use Rattle.std.specs.Vec.{with_items}
use Rattle.lane_words.specs.declared.force.Force.{Force}
use Rattle.lane_words.proofs.Armed.{lane_unnamed}
use Rattle.differential_kernel.specs.Forces.{AreIdleOff, LeaveOff}
use Rattle.differential_kernel.proofs.note.arm_anew.Goals as goal

pub returns-clause-forces : goal.returns-clause-forces
returns-clause-forces g c =
    let new = c.arm_for-stale.new.forces in
    let forces : (with_items c.args.forces.now.by_net new).items ≡ new = grind (arith, common_steps) in
    let size : length new ≡ length c.args.forces.now.by_net.items =
    omega (arith, c.arm_for-stale.auto.forces, ap (λ (fs : List (Force g.row.W.Denot)). length fs) c.deref_mut.ensures.value) in
    record {
      named = c.requires.forces.named;
      each = ap (λ (fs : List (Force g.row.W.Denot)). length fs) forces ∙ size;
      idle = subst (AreIdleOff g.W.Word.lanes g.W.Word.lane_bit c.args.forces.now.named) (sym forces)
          (λ n lt none k d own lt_k.
          c.arm_for-stale.ensures.idle k n d own lt_k lt (lane_unnamed c.args.loads.now k n (sym (c.requires.named n (omega (arith, lt, size))) ∙ none)));
      zeros = c.find_changes.ensures.bound ∙ c.requires.forces.zeros;
      ones = c.find_changes-2.ensures.bound ∙ c.requires.forces.ones;
    }

pub returns-clause-changed : goal.returns-clause-changed
returns-clause-changed g c = record {
  zeros_left = subst (LeaveOff g.W.Word.lanes g.W.Word.lane_bit false c.find_changes.new.set) c.deref.ensures.value c.find_changes.ensures.found;
  ones_left = subst (LeaveOff g.W.Word.lanes g.W.Word.lane_bit true c.find_changes-2.new.set) c.deref-2.ensures.value c.find_changes-2.ensures.found;
}
