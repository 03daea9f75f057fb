use Rattle.claim_search.specs.Sites.{IsReady}
use Rattle.always_answers.specs.Steps.{AreFirstAnswers}
use Rattle.always_answers.proofs.faults.fault_answers.Given as goal

abbrev pub invariant-loop-i : goal.invariant-loop-i
invariant-loop-i l = record {
  ready : IsReady l.searched l.posed l.search;
  first : AreFirstAnswers l.searched.netlist.now l.posed l.faults l.i l.answers.items;
}
