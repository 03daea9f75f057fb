use Rattle.std.proofs.Common.{◌<◌, length, [], arith}
use Rattle.classifier.specs.OutOfReach.{IsDecidedBy, decided_at, reach_at}
use Rattle.classifier.specs.Planes.{outcome_at}
use Rattle.classifier.specs.declared.decided.Decided.{Decided}
use Rattle.classifier.proofs.EachWord.{each_set_one}
use Rattle.classifier.proofs.decided.decide.Goals as goal

pub loop-word-preserved : goal.loop-word-preserved
loop-word-preserved c =
    let i = c.loop-word.word in
    let decided = c.loop-word.decided in
    let new = c.decided_by.result in
    let none : Decided = decided_at [] 0 in
    let within : i < length decided = omega (arith, c.loop-word-test.true, c.loop-word.auto.decided, c.requires.decided) in
    λ word lt.
    each_set_one (λ j d. IsDecidedBy (outcome_at c.args.outcomes.now j) (reach_at c.args.reach.now j) d) decided i new none within c.decided_by.ensures word
    (λ apart. let early : word < i = omega (arith, apart, lt) in c.loop-word.invariant word early)

pub returns : goal.returns
returns c = λ word lt. let done : word < c.loop-word.word = omega (arith, lt, c.loop-word-test.false) in c.loop-word.invariant word done
