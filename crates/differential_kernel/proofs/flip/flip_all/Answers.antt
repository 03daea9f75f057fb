use Rattle.std.proofs.Common.{◌≡◌, length, sym, ◌∙◌, arith}
use Rattle.lane_words.specs.Gates.{plane}
use Rattle.lane_words.specs.Loads.{loaded_faults}
use Rattle.lane_words.proofs.FlipOnce.{flipped_places}
use Rattle.lane_words.proofs.Planes.{length_plane}
use Rattle.differential_kernel.proofs.flip.flip_all.Goals as goal

pub returns-clause-flipped : goal.returns-clause-flipped
returns-clause-flipped g c = λ k lt.
    let now : length (plane g.W.Word.lane_bit k c.loop-lane.latches.raw.items) ≡ length c.loop-lane.latches.raw.items = length_plane g.W.Word.lane_bit k c.loop-lane.latches.raw.items in
    let old : length (plane g.W.Word.lane_bit k c.args.latches.now.raw.items) ≡ length c.args.latches.now.raw.items = length_plane g.W.Word.lane_bit k c.args.latches.now.raw.items in
    flipped_places (loaded_faults c.args.loads.now k) c.args.cycle (plane g.W.Word.lane_bit k c.args.latches.now.raw.items) (plane g.W.Word.lane_bit k c.loop-lane.latches.raw.items)
    (now ∙ c.loop-lane.invariant.2 ∙ sym old)
    (λ p within. c.loop-lane.invariant.0 k p (omega (arith, c.count-lane-end.ensures, lt)) (omega (arith, old, within, c.loop-lane.invariant.2)))
