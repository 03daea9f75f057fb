use Rattle.std.proofs.Common.{ap, sym, ◌∙◌}
use Rattle.circuit.specs.Effects.{inverted}
use Rattle.circuit.specs.Value.{bit_at}
use Rattle.lane_words.specs.Gates.{plane}
use Rattle.lane_words.specs.Loads.{somes}
use Rattle.lane_words.proofs.Armed.{none_flips}
use Rattle.differential_kernel.proofs.flip.invert_lane.Goals as goal

pub returns-else-is_flipping-clause-own : goal.returns-else-is_flipping-clause-own
returns-else-is_flipping-clause-own g c = λ l lt.
    ap (λ b. inverted b (bit_at (plane g.W.Word.lane_bit c.args.lane c.args.latches.now.raw.items) l))
    (sym (none_flips (somes c.args.faults.now) l c.args.cycle (sym c.is_flipping.ensures ∙ c.if-is_flipping.false)))
