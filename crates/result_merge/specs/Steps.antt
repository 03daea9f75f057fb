-- Shapes of private steps: what two lists have of one batch. Nothing public cites them.
use Rattle.std.specs.Prelude.{ℕ, Bool, List, Option, option_map}
use Rattle.std.specs.Option.{option_or}
use Rattle.campaign_plan.specs.Batches.{Entry}
use Rattle.result_merge.specs.Union.{found}
use Rattle.result_merge.specs.Merged.{are_other}

-- what two lists have of a batch: the first, or else the second
abbrev pub found_in_either : {X : Type 0} → List (ℕ × X) → List (ℕ × X) → ℕ → Option X
found_in_either a b batch = option_or (found a batch) (found b batch)

-- a batch with what there is of it, if anything
abbrev pub entry_if : {X : Type 0} → (ℕ → Option X) → ℕ → Option (ℕ × X)
entry_if had batch = option_map (λ x. (batch, x)) (had batch)

-- the batch stands in both lists, with other planes
abbrev pub is_other_in : List Entry → List Entry → ℕ → Bool
is_other_in a b batch = are_other (found a batch) (found b batch)
