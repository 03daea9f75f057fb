-- What the faults of a batch are found to be, where there may be none.
use Rattle.std.specs.Prelude.{ℕ, List, [], ◌∷◌, Option, None, Some, slice_index_or}
use Rattle.circuit.specs.declared.parts.Fault.{Fault}
use Rattle.circuit.specs.Circuit.{Circuit}
use Rattle.workload.specs.declared.run.Run.{Run}
use Rattle.alarm_points.specs.declared.Points.{Points}
use Rattle.fault_list.specs.Faults.{fault_in_lane}
use Rattle.lane_words.specs.Loads.{somes}
use Rattle.campaign_plan.specs.declared.Outcome.{Outcome}
use Rattle.campaign_plan.specs.Batches.{outcome_of}

-- the fault in a lane of a batch, where there is one, as a list
abbrev pub alone_in : List Fault → Option ℕ → ℕ → List Fault
alone_in faults batch lane = somes (fault_in_lane faults batch lane ∷ [])

-- the batch of a word, where it has one
abbrev pub batch_at : List (Option ℕ) → ℕ → Option ℕ
batch_at batches word = slice_index_or batches word None

-- the planes of a batch, and 0 where there is none
abbrev pub outcome_for : Circuit → Points → ℕ → List Run → List Fault → Option ℕ → Outcome
outcome_for c points ftti runs faults None = record { danger = 0; noticed = 0 }
outcome_for c points ftti runs faults (Some batch) = outcome_of c points ftti runs faults batch
