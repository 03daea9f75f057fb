-- The planes of each batch, by its number.
use Rattle.std.specs.Prelude.{ℕ, List, map, find, Option, None, option_map, unwrap_or, slice_index_or}
use Rattle.std.specs.Option.{option_or}
use Rattle.fm_base.specs.Lists.{below}
use Rattle.campaign_plan.specs.declared.Outcome.{Outcome}
use Rattle.campaign_plan.specs.Batches.{Entry}
use Rattle.result_merge.specs.declared.merge.MergeRefusal.{MergeRefusal}
use Rattle.result_merge.specs.declared.merge.MergeRefusal.TheVariants.{Differs}
use Rattle.result_merge.specs.Union.{found}
use Rattle.result_merge.specs.Merged.{are_other}

-- a place for each batch
abbrev pub Table : Type 0
Table = List (Option Outcome)

-- for each batch below n what a list has of it
abbrev pub planes_table : ℕ → List Entry → Table
planes_table n entries = map (found entries) (below n)

-- what a table has of a batch
abbrev pub at_batch : Table → ℕ → Option Outcome
at_batch table batch = slice_index_or table batch None

-- the planes of a batch, which are 0 where there are none
abbrev pub planes_at : Table → ℕ → Outcome
planes_at table batch = unwrap_or (at_batch table batch) (record { danger = 0; noticed = 0 })

-- what two tables have of a batch: the first, or else the second
abbrev pub at_either : Table → Table → ℕ → Option Outcome
at_either first second batch = option_or (at_batch first batch) (at_batch second batch)

-- the least batch below n of which the tables have other planes
abbrev pub first_other_at : ℕ → Table → Table → Option ℕ
first_other_at n first second = find (λ batch. are_other (at_batch first batch) (at_batch second batch)) (below n)

-- the refusal that names it, with its planes in both
abbrev pub difference : ℕ → Table → Table → Option MergeRefusal
difference n first second = option_map (λ batch. Differs batch (planes_at first batch) (planes_at second batch)) (first_other_at n first second)
