use Rattle.std.proofs.Common.{◌+◌, ◌*◌, ◌<◌, ◌∙◌, arith}
use Rattle.classifier.proofs.followed.DifferentialLanesFollowed.differing.Goals as goal

pub returns : goal.returns
returns g c = λ run t word k lt after less lane.
    let low : word * 64 + k < g.W.Word.lanes = omega (arith, less, lane, g.met.W.Word.whole) in
    c.parts_of.ensures word k less lane ∙ c.differ_in.ensures run t (word * 64 + k) lt after low
