use Rattle.std.proofs.Common.{◌≡◌, length}
use Rattle.reading_planes.proofs.planes.ReadingPlanes.new.Given as goal

-- so many so far
abbrev pub invariant-loop : goal.invariant-loop
invariant-loop l = length l.outcomes.items ≡ l.counter
