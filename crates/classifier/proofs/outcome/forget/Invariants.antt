use Rattle.std.proofs.Common.{◌≡◌, ◌<◌, ℕ}
use Rattle.classifier.specs.Planes.{outcome_at}
use Rattle.classifier.proofs.outcome.forget.Given as goal

-- the words so far have shown nothing
abbrev pub invariant-loop-word : goal.invariant-loop-word
invariant-loop-word l = (word : ℕ) → word < l.word → outcome_at l.outcomes word ≡ record { danger = 0; noticed = 0 }
