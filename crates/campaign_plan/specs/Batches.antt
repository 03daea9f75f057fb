-- What each batch of 64 faults is found to be, and the sums over batches.
use Rattle.std.specs.Prelude.{◌≡◌, ℕ, ◌/◌, ◌%◌, ◌<◌, Bool, ◌&&◌, List, [], ◌∷◌, map, filter, length, All, Contains}
use Rattle.circuit.specs.declared.parts.Fault.{Fault}
use Rattle.circuit.specs.Circuit.{Circuit}
use Rattle.fault_list.specs.Faults.{fault_at, fault_number, is_used}
use Rattle.workload.specs.declared.run.Run.{Run}
use Rattle.alarm_points.specs.declared.Points.{Points}
use Rattle.metric_sums.specs.declared.Class.{Class}
use Rattle.metric_sums.specs.declared.Sums.{Sums}
use Rattle.metric_sums.specs.Classes.{class_of}
use Rattle.metric_sums.specs.Totals.{share_of, sums_by}
use Rattle.fm_base.specs.Planes.{lanes, bit, plane_of}
use Rattle.fm_base.specs.Lists.{below}
use Rattle.fm_base.specs.Once.{IsOnce}
use Rattle.campaign_plan.specs.declared.Outcome.{Outcome}
use Rattle.campaign_plan.specs.Analysis.{Analysis, all_faults, fault_count, fault_numbered, part_numbered, part_of, batch_count}
use Rattle.campaign_plan.specs.Danger.{is_dangerous, is_noticed}
use Rattle.campaign_plan.specs.Weights.{weight}
use Rattle.circuit.specs.Effects.{is_permanent}

-- the planes of a batch: danger, and notice, of the fault in each lane alone, and 0 where a lane holds no fault
unfoldable pub outcome_of : Circuit → Points → ℕ → List Run → List Fault → ℕ → Outcome
outcome_of c points ftti runs fs batch =
    let plane = λ (test : Fault → Bool). plane_of (λ k. is_used (length fs) batch k && test (fault_at fs (fault_number batch k))) in
    record { danger = plane (λ f. is_dangerous c points ftti runs (f ∷ [])); noticed = plane (λ f. is_noticed c points runs (f ∷ [])) }

-- the planes that a plan's batch truly has
abbrev pub true_planes : Analysis → ℕ → Outcome
true_planes p batch = outcome_of p.circuit p.points p.settings.ftti p.runs (all_faults p) batch

-- the class of the fault in a lane, by its bits in the planes of its batch and by its part
abbrev pub class_in_lane : Analysis → ℕ → Outcome → ℕ → Class
class_in_lane p batch planes k =
    let fault = fault_numbered p (fault_number batch k) in
    let own = part_numbered p (part_of p fault) in
    class_of (bit planes.danger k) (bit planes.noticed k) own.role own.covered (is_permanent fault)

-- the five sums over the faults of one batch
unfoldable pub own_sums : Analysis → ℕ → Outcome → Sums
own_sums p batch planes =
    let share : ℕ → ℕ → Sums = λ k i. share_of (class_in_lane p batch planes k) (is_permanent (fault_numbered p i)) (weight p i) in
    sums_by (λ k. share k (fault_number batch k)) (filter (is_used (fault_count p) batch) (below lanes))

-- a batch and its planes
abbrev pub Entry : Type 0
Entry = ℕ × Outcome

-- the five sums over a list of batches, taken from the first on
abbrev pub total : Analysis → List Entry → Sums
total p entries = sums_by (λ entry. own_sums p entry.0 entry.1) entries

-- the batches of a list
abbrev pub batches : List Entry → List ℕ
batches entries = map (λ entry. entry.0) entries

-- batches of the plan, none of them twice
pub record AreDistinct (p : Analysis) (entries : List Entry) : Type 0 where
  pub within : All (λ batch. batch < batch_count p) (batches entries)
  pub once : IsOnce (batches entries)

-- each batch of the plan stands in the list
abbrev pub HasEach : Analysis → List Entry → Type 0
HasEach p entries = (batch : ℕ) → batch < batch_count p → Contains (batches entries) batch

-- each batch has the planes that it truly has
abbrev pub AreTrue : Analysis → List Entry → Type 0
AreTrue p entries = All (λ entry. entry.1 ≡ true_planes p entry.0) entries

-- all batches in rising order, with the planes that `planes` gives
abbrev pub in_order : Analysis → (ℕ → Outcome) → List Entry
in_order p planes = map (λ batch. (batch, planes batch)) (below (batch_count p))

-- the class of fault i, where `planes` gives the planes of each batch
abbrev pub class_of_fault : Analysis → (ℕ → Outcome) → ℕ → Class
class_of_fault p planes i = class_in_lane p (i / lanes) (planes (i / lanes)) (i % lanes)

-- ---- shapes of private steps

-- the class of fault i, where its danger and its notice are these
abbrev pub class_with : Analysis → ℕ → Bool → Bool → Class
class_with p i dangerous noticed =
    let own = part_numbered p (part_of p (fault_numbered p i)) in
    class_of dangerous noticed own.role own.covered (is_permanent (fault_numbered p i))

-- what the fault in a lane adds to the sums
abbrev pub lane_sums : Analysis → ℕ → Outcome → ℕ → Sums
lane_sums p batch planes k =
    share_of (class_in_lane p batch planes k) (is_permanent (fault_numbered p (fault_number batch k))) (weight p (fault_number batch k))
