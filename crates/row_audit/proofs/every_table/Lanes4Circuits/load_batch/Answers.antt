use Rattle.std.proofs.Common.{◌*◌, ◌+◌, ◌≤◌, inr, ◌∙◌, arith}
use Rattle.classifier.proofs.Following.{elsewhere}
use Rattle.row_audit.proofs.every_table.Lanes4Circuits.load_batch.Goals as goal

pub returns-clause-sound : goal.returns-clause-sound
returns-clause-sound c = λ k lane.
    let behind : c.args.word * 64 + 64 ≤ 3 * 64 + k = omega (arith, c.requires.word) in
    c.load.ensures.others (3 * 64 + k) (inr behind) ∙ c.requires.sound k lane

pub returns-clause-loads : goal.returns-clause-loads
returns-clause-loads c = λ k lane. c.load.ensures.loads k lane ∙ c.loads_of.ensures k lane

pub returns-clause-others : goal.returns-clause-others
returns-clause-others c = λ other k lt apart lane. c.load.ensures.others (other * 64 + k) (elsewhere other c.args.word k lane apart)
