-- The room that a report takes.
use Rattle.std.specs.Prelude.{ℕ}
use Rattle.campaign_plan.specs.Analysis.{Analysis, batch_count, part_count}

-- places for the planes of batches and for the counts of parts
pub record Room : Type 0 where
  pub batches : ℕ
  pub parts : ℕ

-- a place for each batch and for each part of the plan
abbrev pub room_for : Analysis → Room
room_for p = record { batches = batch_count p; parts = part_count p }
