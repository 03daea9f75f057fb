-- The faults that are simulated, 64 at once, and what each fault is shown to be by them.
use Rattle.std.specs.Prelude.{◌≡◌, ℕ, ◌/◌, ◌%◌, ◌<◌, Bool, true, ◌&&◌, List, filter, length, Option, slice_get, slice_index}
use Rattle.std.specs.Option.{option_map, option_to_list}
use Rattle.circuit.specs.declared.parts.Fault.{Fault}
use Rattle.fault_list.specs.Faults.{fault_at, fault_number, is_used}
use Rattle.fm_base.specs.Lists.{below}
use Rattle.fm_base.specs.Planes.{bit, lanes, plane_of}
use Rattle.campaign_plan.specs.declared.Outcome.{Outcome}
use Rattle.campaign_plan.specs.Analysis.{Analysis, all_faults}
use Rattle.classifier.specs.Planes.{outcome_at, planes_of}
use Rattle.collapse_map.specs.Collapsed.{Collapsed, is_own, rep_of}

-- the faults that are their own representatives, in rising order, and the place of each among them
pub record AreChosen (s : Collapsed) (numbers places : List ℕ) : Type 0 where
  pub listed : numbers ≡ filter (is_own s) (below (length s.faults))
  pub sized : length places ≡ length s.faults
  pub each : (i : ℕ) → i < length s.faults → is_own s i ≡ true → (slice_index places i < length numbers) × (slice_index numbers (slice_index places i) ≡ i)

-- the fault at a place among these numbers, if there is one
abbrev pub chosen_at : List Fault → List ℕ → ℕ → Option Fault
chosen_at faults numbers place = option_map (fault_at faults) (slice_get numbers place)

-- the fault in a lane of a group of 64
abbrev pub faults_in : List Fault → List ℕ → ℕ → ℕ → List Fault
faults_in faults numbers group lane = option_to_list (chosen_at faults numbers (fault_number group lane))

-- the planes of a group
abbrev pub group_planes : Analysis → List ℕ → ℕ → Outcome
group_planes p numbers group = planes_of p.circuit p.points p.settings.ftti p.runs (faults_in (all_faults p) numbers group)

-- these are the planes of the groups
abbrev pub AreSimulated : Analysis → List ℕ → List Outcome → Type 0
AreSimulated p numbers found = (group : ℕ) → group < length found → outcome_at found group ≡ group_planes p numbers group

-- the place of the representative of fault i
abbrev pub place_for : Collapsed → List ℕ → ℕ → ℕ
place_for s places i = slice_index places (rep_of s i)

-- danger, and notice, of fault i, read off the lane of its representative
abbrev pub danger_shown : Collapsed → List ℕ → List Outcome → ℕ → Bool
danger_shown s places found i = bit (outcome_at found (place_for s places i / lanes)).danger (place_for s places i % lanes)

abbrev pub notice_shown : Collapsed → List ℕ → List Outcome → ℕ → Bool
notice_shown s places found i = bit (outcome_at found (place_for s places i / lanes)).noticed (place_for s places i % lanes)

-- the planes of a batch, read off so
unfoldable pub planes_shown : Collapsed → List ℕ → List Outcome → ℕ → Outcome
planes_shown s places found batch = record {
  danger = plane_of (λ k. is_used (length s.faults) batch k && danger_shown s places found (fault_number batch k));
  noticed = plane_of (λ k. is_used (length s.faults) batch k && notice_shown s places found (fault_number batch k));
}

-- each fault has a lane to be read off
abbrev pub HaveLanes : Collapsed → List ℕ → List Outcome → Type 0
HaveLanes s places found = (i : ℕ) → i < length s.faults → place_for s places i / lanes < length found
