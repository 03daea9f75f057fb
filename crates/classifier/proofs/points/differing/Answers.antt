use Rattle.std.proofs.Common.{◌+◌, ◌*◌, ◌<◌, ◌∙◌, arith}
use Rattle.classifier.proofs.points.differing.Goals as goal

pub returns : goal.returns
returns g c = λ run t k lt after lane.
    let low : c.args.word * 64 + k < g.W.Word.lanes = omega (arith, c.requires.word, lane, g.met.W.Word.whole) in
    c.part.ensures k lane ∙ c.differ_in.ensures run t (c.args.word * 64 + k) lt after low
