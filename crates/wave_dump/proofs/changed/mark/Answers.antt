use Rattle.std.proofs.Common.{◌≡◌, ◌<◌, ◌+◌, ◌∙◌, ℕ, false, length, length-set, get_or, ap, sym, arith}
use Rattle.circuit.specs.Circuit.{Circuit}
use Rattle.wave_dump.specs.Steps.{AreMarks, IsIn, has_changed}
use Rattle.wave_dump.proofs.Showing.{done_next, marked_before, marked_now, rest_next}
use Rattle.wave_dump.proofs.changed.mark.Goals as goal
use Rattle.wave_dump.proofs.changed.mark.Goals.{then-marks-place, else-marks-place}

pub loop-net-preserved : goal.loop-net-preserved
loop-net-preserved c =
    let w = c.args.scene.now in
    let n = c.loop-net.net in
    let marks = c.loop-net.marks in
    let v = c.if-marks-place.marks in
    let within : n < length w.circuit.drivers =
    omega (arith, c.loop-net-test.true, c.nets-net-end.ensures.count, ap (λ (x : Circuit). length x.drivers) c.netlist.ensures) in
    let before : (t : ℕ) → AreMarks w t c.args.marks.now → get_or marks n false ≡ has_changed w t n =
    λ t are. c.loop-net.invariant.rest n (omega arith) ∙ are.each n within in
    let here : (t : ℕ) → IsIn w t c.args.lanes.now → AreMarks w t c.args.marks.now → v ≡ has_changed w (t + 1) n =
    λ t now are. elim c.if-marks-place.branch as (λ _. v ≡ has_changed w (t + 1) n) [
      | then-marks-place x ↦ x.marks-is ∙ x.if-marks-place.true ∙ marked_before w t n (sym (before t are) ∙ x.if-marks-place.true)
      | else-marks-place x ↦ x.marks-is ∙ marked_now w t n x.is_changed.result (sym (before t are) ∙ x.if-marks-place.false) (x.is_changed.ensures t now)
    ] in
    record {
      count = length-set marks n v ∙ c.loop-net.invariant.count;
      done = λ t k now are lt. done_next (has_changed w (t + 1)) c.args.marks.now marks n v (omega (arith, within, c.loop-net.invariant.count, c.requires))
          (λ j less. c.loop-net.invariant.done t j now are less) (here t now are) k lt;
      rest = rest_next (has_changed w 0) c.args.marks.now marks n v c.loop-net.invariant.rest;
    }
