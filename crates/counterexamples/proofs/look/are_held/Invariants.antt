use Rattle.std.proofs.Common.{take}
use Rattle.counterexamples.specs.Runs.{AreHeldIn}
use Rattle.counterexamples.proofs.look.are_held.Given as goal

abbrev pub invariant-loop-input : goal.invariant-loop-input
invariant-loop-input l = AreHeldIn l.lanes.circuit (take l.input-index l.held) l.lanes l.cycle
