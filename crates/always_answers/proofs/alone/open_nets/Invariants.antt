use Rattle.always_answers.specs.Steps.{AreMarked}
use Rattle.always_answers.proofs.alone.open_nets.Given as goal

abbrev pub invariant-loop-n : goal.invariant-loop-n
invariant-loop-n l = AreMarked l.free l.seen l.n l.open.items
