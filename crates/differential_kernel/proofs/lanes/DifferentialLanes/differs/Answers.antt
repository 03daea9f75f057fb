use Rattle.std.proofs.Common.{◌+◌, ◌*◌, ◌<◌, ◌∙◌, arith}
use Rattle.differential_kernel.proofs.lanes.DifferentialLanes.differs.Goals as goal

pub returns : goal.returns
returns g c = λ vectors t k beside last lt within.
    let lane = c.args.word * 64 + k in
    let low : lane < g.W.Word.lanes = omega (arith, c.requires, lt, g.met.W.Word.whole) in
    c.part.ensures k lt ∙ c.difference.ensures vectors t lane beside last low within
