use Rattle.std.proofs.Common.{◌≡◌, ◌<◌, ℕ}
use Rattle.classifier.specs.Planes.{outcome_at}
use Rattle.reading_planes.proofs.planes.forget.Given as goal

-- the readings so far have found nothing
abbrev pub invariant-loop-r : goal.invariant-loop-r
invariant-loop-r l = (q : ℕ) → q < l.r → outcome_at l.outcomes q ≡ record { danger = 0; noticed = 0 }
