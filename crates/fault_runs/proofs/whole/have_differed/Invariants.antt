use Rattle.std.proofs.Common.{◌≡◌, ◌<◌, ℕ, true, is_some}
use Rattle.fault_runs.specs.First.{first_of}
use Rattle.fault_runs.specs.Records.{goal_cycles}
use Rattle.fault_runs.proofs.whole.have_differed.Given as goal

-- those so far have
abbrev pub invariant-loop-g : goal.invariant-loop-g
invariant-loop-g l = (h : ℕ) → h < l.g → is_some (first_of (goal_cycles l.goals h) l.fault) ≡ true
