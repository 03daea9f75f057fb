use Rattle.std.proofs.Common.{◌≡◌, length}
use Rattle.claim_search.specs.Sites.{IsReady}
use Rattle.always_answers.specs.Steps.{AreAlone}
use Rattle.always_answers.proofs.alone.free_answers.Given as goal

abbrev pub invariant-loop-part : goal.invariant-loop-part
invariant-loop-part l = record {
  ready : IsReady l.searched l.posed l.search;
  size : length l.free.items ≡ length l.searched.netlist.now.drivers;
  alone : AreAlone l.searched.netlist.now l.posed l.parts l.seen l.part l.free.items;
}
