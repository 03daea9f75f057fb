-- The planes that rows give each batch.
use Rattle.std.specs.Prelude.{ℕ, ◌==◌, List, [], ◌∷◌, map, if◌then◌else◌}
use Rattle.campaign_plan.specs.declared.Outcome.{Outcome}
use Rattle.campaign_plan.specs.Analysis.{Analysis}
use Rattle.campaign_plan.specs.Batches.{AreDistinct, HasEach}
use Rattle.result_file.specs.declared.Row.{Row}
use Rattle.result_file.specs.KeptRows.{entry_of}

-- the planes of each batch
abbrev pub Planes : Type 0
Planes = ℕ → Outcome

-- the rows hold each batch of the plan once, in any order
pub record HoldEachOnce (p : Analysis) (rows : List Row) : Type 0 where
  pub distinct : AreDistinct p (map entry_of rows)
  pub each : HasEach p (map entry_of rows)

-- the planes of a batch: those of its row
abbrev pub planes_in : List Row → Planes
planes_in [] batch = record { danger = 0; noticed = 0 }
planes_in (row ∷ rows) batch = if row.batch == batch then (entry_of row).1 else planes_in rows batch
