use Rattle.std.proofs.Common.{◌∙◌, arith}
use Rattle.metric_coverage.proofs.Speaking.{speaks}
use Rattle.metric_coverage.proofs.finding.evidence_list.Goals as goal

pub returns-clause-spoken : goal.returns-clause-spoken
returns-clause-spoken c = λ q same told i lt.
    c.in_ok-list.ensures.each i (omega (arith, lt, same))
    ∙ speaks c.one_simulation_gives_coverage.ensures.planes q c.args.planes.now c.args.bare.now c.args.path.now c.args.excited.now told i lt
