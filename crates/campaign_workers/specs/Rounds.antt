-- The rounds of a worker: it draws up to four batches, simulates them together, and posts each by itself.
use Rattle.std.specs.Prelude.{◌≡◌, ℕ, ◌+◌, false, List, [], ◌∷◌, Option, None, Some, map, All}
use Rattle.campaign_core.specs.Machines.{times}
use Rattle.claim_counter.specs.Seats.{Counter, Seated, IsOf}
use Rattle.campaign_board.specs.Boards.{Start}
use Rattle.campaign_board.specs.Missing.{IsMissing, claim_number}
use Rattle.campaign_plan.specs.declared.Outcome.{Outcome}
use Rattle.campaign_plan.specs.Analysis.{Analysis, all_faults}
use Rattle.classifier.specs.Batch.{outcome_for}

-- the batches of a round, in the order drawn
abbrev pub drawn_in : List (Option ℕ) → List ℕ
drawn_in [] = []
drawn_in (None ∷ batches) = drawn_in batches
drawn_in (Some batch ∷ batches) = batch ∷ drawn_in batches

-- their numbers on the claim counter
abbrev pub numbers_in : Start → List (Option ℕ) → List ℕ
numbers_in o batches = map (claim_number o) (drawn_in batches)

-- the planes that each batch of a round truly has, and 0 where there is none
abbrev pub true_planes_in : Analysis → List (Option ℕ) → List Outcome
true_planes_in p batches = map (outcome_for p.circuit p.points p.settings.ftti p.runs (all_faults p)) batches

-- The seat owes a post of each of these batches, and of nothing else that it drew.
-- due: each of them is a batch to do
-- once: the seat drew it once
-- all: what the seat drew is what it posted, and these
pub record Owes (c : Counter) (o : Start) (p : Seated) (owed : List ℕ) : Type 0 where
  pub of : IsOf c p
  pub free : p.view.holds ≡ false
  pub due : All (IsMissing o) owed
  pub once : All (λ batch. times (claim_number o batch) p.view.claims ≡ 1) owed
  pub all : (n : ℕ) → times n p.view.claims ≡ times n p.view.posts + times n (map (claim_number o) owed)
