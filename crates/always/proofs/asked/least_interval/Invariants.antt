use Rattle.std.proofs.Common.{◌≡◌, take}
use Rattle.std.specs.Prelude.{fold}
use Rattle.always.specs.Asked.{shorter_of}
use Rattle.always.proofs.asked.least_interval.Given as goal

abbrev pub invariant-loop-goal : goal.invariant-loop-goal
invariant-loop-goal l = l.least ≡ fold (shorter_of l.ftti) 8 (take l.goal-index l.goal-items)
