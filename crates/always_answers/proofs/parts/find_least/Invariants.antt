use Rattle.std.proofs.Common.{◌≡◌, length}
use Rattle.always_answers.specs.PartSteps.{ArePartsSoFar}
use Rattle.always_answers.proofs.parts.find_least.Given as goal

abbrev pub invariant-loop-window : goal.invariant-loop-window
invariant-loop-window l = record {
  size : length l.answers ≡ length l.initial.answers;
  so_far : ArePartsSoFar l.searched.netlist.now l.posed l.parts (length l.answers) l.window l.answers;
}
