-- What the faults that the lanes were loaded with are found to be.
use Rattle.std.specs.Prelude.{◌≡◌, ◌<◌, ◌^◌, ℕ, List, slice_index_or}
use Rattle.circuit.specs.declared.parts.Fault.{Fault}
use Rattle.circuit.specs.Circuit.{Circuit}
use Rattle.workload.specs.declared.run.Run.{Run}
use Rattle.alarm_points.specs.declared.Points.{Points}
use Rattle.alarm_points.specs.FourWatches.{windows_at}
use Rattle.alarm_points.specs.Watch.{Watches}
use Rattle.fm_base.specs.Planes.{bit, plane_of}
use Rattle.campaign_plan.specs.declared.Outcome.{Outcome}
use Rattle.campaign_plan.specs.Danger.{is_dangerous, is_noticed}
use Rattle.testbench.specs.Load.{Load, lane_faults}

-- the planes of danger, and of notice, of the list of faults of each lane
unfoldable pub planes_of : Circuit → Points → ℕ → List Run → (ℕ → List Fault) → Outcome
planes_of c points ftti runs faults = record {
  danger = plane_of (λ k. is_dangerous c points ftti runs (faults k));
  noticed = plane_of (λ k. is_noticed c points runs (faults k));
}

-- the same of two words, bit by bit
pub record HasPlanes (c : Circuit) (points : Points) (ftti : ℕ) (runs : List Run) (faults : ℕ → List Fault) (outcome : Outcome) : Type 0 where
  pub fits : (outcome.danger < 2 ^ 64) × (outcome.noticed < 2 ^ 64)
  pub danger : (k : ℕ) → k < 64 → bit outcome.danger k ≡ is_dangerous c points ftti runs (faults k)
  pub noticed : (k : ℕ) → k < 64 → bit outcome.noticed k ≡ is_noticed c points runs (faults k)

-- the planes of a word
abbrev pub outcome_at : List Outcome → ℕ → Outcome
outcome_at outcomes word = slice_index_or outcomes word (record { danger = 0; noticed = 0 })

-- so has each word, with the interval of its windows and the faults that it was loaded with
abbrev pub HaveAllPlanes : Circuit → Points → List Run → ℕ → Load → List Watches → List Outcome → Type 0
HaveAllPlanes c points runs words load windows outcomes =
    (word : ℕ) → word < words → HasPlanes c points (windows_at windows word).ftti runs (lane_faults load word) (outcome_at outcomes word)

-- they are the planes of each word
abbrev pub AreAllPlanes : Circuit → Points → List Run → ℕ → Load → List Watches → List Outcome → Type 0
AreAllPlanes c points runs words load windows outcomes =
    (word : ℕ) → word < words → outcome_at outcomes word ≡ planes_of c points (windows_at windows word).ftti runs (lane_faults load word)
