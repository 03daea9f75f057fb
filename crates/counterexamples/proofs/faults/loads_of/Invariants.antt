use Rattle.counterexamples.proofs.Loading.{AreLoadedTo}
use Rattle.counterexamples.proofs.faults.loads_of.Given as goal

abbrev pub invariant-loop-k : goal.invariant-loop-k
invariant-loop-k l = AreLoadedTo l.faults l.batch l.loads l.k
