use Rattle.std.proofs.Common.{ap₂, ◌∙◌}
use Rattle.lane_words.specs.Bits.{either}
use Rattle.fault_runs.proofs.PointBits.{or_where}
use Rattle.fault_runs.proofs.points.either_word.Goals as goal

pub returns : goal.returns
returns g c = λ k lt.
    c.xor-2.ensures k lt ∙ ap₂ either (c.xor.ensures k lt) (c.and.ensures k lt) ∙ or_where (g.W.Word.lane_bit c.args.a k) (g.W.Word.lane_bit c.args.b k)
