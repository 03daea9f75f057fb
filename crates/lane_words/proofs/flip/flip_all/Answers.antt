use Rattle.std.proofs.Common.{◌≡◌, length, sym, ◌∙◌, arith}
use Rattle.lane_words.specs.Gates.{plane}
use Rattle.lane_words.specs.Loads.{loaded_faults}
use Rattle.lane_words.proofs.FlipOnce.{flipped_places}
use Rattle.lane_words.proofs.Planes.{length_plane}
use Rattle.lane_words.proofs.flip.flip_all.Goals as goal

pub returns : goal.returns
returns g c = λ k lt.
    let now : length (plane g.W.Word.lane_bit k c.loop-lane.raw) ≡ length c.loop-lane.raw = length_plane g.W.Word.lane_bit k c.loop-lane.raw in
    let old : length (plane g.W.Word.lane_bit k c.args.raw.now) ≡ length c.args.raw.now = length_plane g.W.Word.lane_bit k c.args.raw.now in
    flipped_places (loaded_faults c.args.loads.now k) c.args.cycle (plane g.W.Word.lane_bit k c.args.raw.now) (plane g.W.Word.lane_bit k c.loop-lane.raw)
    (now ∙ c.loop-lane.auto.raw ∙ sym old)
    (λ p within. c.loop-lane.invariant.0 k p (omega (arith, c.count-lane-end.ensures, lt)) (omega (arith, old, within, c.loop-lane.auto.raw)))
