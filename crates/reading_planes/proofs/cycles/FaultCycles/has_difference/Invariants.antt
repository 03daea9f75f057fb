use Rattle.std.proofs.Common.{◌≡◌, ◌<◌, ℕ, None, get_or}
use Rattle.reading_planes.proofs.cycles.FaultCycles.has_difference.Given as goal

-- none so far has
abbrev pub invariant-loop-difference : goal.invariant-loop-difference
invariant-loop-difference l = (h : ℕ) → h < l.difference-index → get_or l.self.differences h None ≡ None
