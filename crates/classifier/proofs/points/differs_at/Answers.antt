use Rattle.std.proofs.Common.{◌+◌, ◌*◌, ◌<◌, ◌∙◌, arith}
use Rattle.classifier.proofs.points.differs_at.Goals as goal

pub returns : goal.returns
returns g c = λ run t k lt after lane inside.
    let low : c.args.word * 64 + k < g.W.Word.lanes = omega (arith, c.requires, lane, g.met.W.Word.whole) in
    c.part.ensures k lane ∙ c.difference_at.ensures run t (c.args.word * 64 + k) lt after low inside
