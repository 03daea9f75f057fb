use Rattle.std.proofs.Common.{◌<◌, ℕ}
use Rattle.classifier.specs.OutOfReach.{IsDecidedBy, decided_at, reach_at}
use Rattle.classifier.specs.Planes.{outcome_at}
use Rattle.classifier.proofs.decided.decide.Given as goal

-- the words so far are told
abbrev pub invariant-loop-word : goal.invariant-loop-word
invariant-loop-word l = (word : ℕ) → word < l.word → IsDecidedBy (outcome_at l.outcomes word) (reach_at l.reach word) (decided_at l.decided word)
