use Rattle.claim_search.specs.Sites.{IsReady}
use Rattle.always_answers.specs.PartSteps.{ArePartsSoFar}
use Rattle.always_answers.proofs.parts.widest_answers.Given as goal

abbrev pub invariant-loop-part : goal.invariant-loop-part
invariant-loop-part l = record {
  ready : IsReady l.searched l.posed l.search;
  first : ArePartsSoFar l.searched.netlist.now l.posed l.parts l.part 0 l.answers.items;
}
