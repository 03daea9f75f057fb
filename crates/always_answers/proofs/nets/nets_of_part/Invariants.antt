use Rattle.always_answers.specs.Steps.{ArePicked, is_picked}
use Rattle.always_answers.proofs.nets.nets_of_part.Given as goal

abbrev pub invariant-loop-n : goal.invariant-loop-n
invariant-loop-n l = ArePicked (is_picked l.parts l.part l.marks l.mark) l.n l.nets.items
