use Rattle.std.proofs.Common.{◌≡◌, ◌<◌, ℕ, true}
use Rattle.fm_base.specs.Planes.{bit}
use Rattle.counterexamples.specs.Runs.{IsUnalarmed}
use Rattle.counterexamples.proofs.judge.unalarmed_lanes.Given as goal

abbrev pub invariant-loop-t : goal.invariant-loop-t
invariant-loop-t l = (k : ℕ) → k < 64 → bit l.found k ≡ true → IsUnalarmed l.posed l.cycles l.seen k
