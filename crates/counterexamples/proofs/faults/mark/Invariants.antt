use Rattle.std.proofs.Common.{◌≡◌, ℕ, List, length}
use Rattle.circuit.specs.Circuit.{Circuit}
use Rattle.circuit.specs.declared.parts.Fault.{Fault}
use Rattle.claim_search.specs.declared.question.Posed.{Posed}
use Rattle.counterexamples.specs.Contradicted.{MarksContradicted}
use Rattle.counterexamples.specs.Runs.{AreLoaded, LanesContradicted}
use Rattle.counterexamples.proofs.faults.mark.Given as goal

abbrev pub invariant-loop-k : goal.invariant-loop-k
invariant-loop-k l = record {
  size : length l.marks ≡ length l.fn.marks;
  marks : (c : Circuit) (p : Posed) (faults : List Fault) (loads : ℕ → List Fault) → AreLoaded faults l.batch loads → LanesContradicted c p loads l.found
      → MarksContradicted c p faults l.fn.marks → MarksContradicted c p faults l.marks;
}
