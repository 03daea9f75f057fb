use Rattle.std.proofs.Common.{◌≡◌, take}
use Rattle.held_inputs.specs.First.{first_cycle}
use Rattle.held_inputs.proofs.first.greatest_from.Given as goal

abbrev pub invariant-loop-h : goal.invariant-loop-h
invariant-loop-h l = l.first ≡ first_cycle (take l.h-index l.held)
