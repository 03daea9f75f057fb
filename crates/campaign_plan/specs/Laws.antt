-- Laws of a plan, which say in the words of faults what planes, batches and weights say.
use Rattle.std.specs.Prelude.{◌≡◌, ℕ, ◌<◌, Bool, List, [], ◌∷◌, filter, count_by, sum_by}
use Rattle.circuit.specs.Effects.{is_permanent}
use Rattle.fm_base.specs.Lists.{below}
use Rattle.metric_sums.specs.declared.Class.{Class}
use Rattle.metric_sums.specs.declared.Sums.{Sums}
use Rattle.metric_sums.specs.Totals.{AreConsistent, share_of, sums_by}
use Rattle.campaign_plan.specs.declared.Outcome.{Outcome}
use Rattle.campaign_plan.specs.Analysis.{Analysis, all_faults, fault_count, fault_numbered, part_numbered}
use Rattle.campaign_plan.specs.Batches.{AreDistinct, Entry, class_of_fault, class_with, in_order, total, true_planes}
use Rattle.campaign_plan.specs.Danger.{is_dangerous, is_noticed}
use Rattle.campaign_plan.specs.Kept.{IsPlan}
use Rattle.campaign_plan.specs.Weights.{has_part_and_kind, rate_of_kind, weight}

-- ---- weights

-- THE WEIGHTS OF A PART'S FAULTS OF ONE KIND SUM TO ITS RATE of that kind, where it has such a fault
abbrev pub WeightsSumToRates : Type 0
WeightsSumToRates = (p : Analysis) (k : ℕ) (permanent : Bool) → 0 < count_by (has_part_and_kind p k permanent) (all_faults p)
    → sum_by (weight p) (filter (λ i. has_part_and_kind p k permanent (fault_numbered p i)) (below (fault_count p))) ≡ rate_of_kind permanent (part_numbered p k)

-- THE FIVE SUMS ARE AT MOST 10^18, whatever the planes, over batches of a plan that stand once each; and dangerous and latent
-- faults are apart and among all
abbrev pub SumsAreConsistent : Type 0
SumsAreConsistent = (p : Analysis) → IsPlan p → (entries : List Entry) → AreDistinct p entries → AreConsistent (total p entries)

-- ---- each fault alone, one after the other

-- the class of fault i by its own danger and notice: those of the list that holds this fault alone
abbrev pub class_alone : Analysis → ℕ → Class
class_alone p i =
    class_with p i (is_dangerous p.circuit p.points p.settings.ftti p.runs (fault_numbered p i ∷ []))
    (is_noticed p.circuit p.points p.runs (fault_numbered p i ∷ []))

-- what fault i adds to the five sums, where it has this class
abbrev pub fault_share : Analysis → (ℕ → Class) → ℕ → Sums
fault_share p class i = share_of (class i) (is_permanent (fault_numbered p i)) (weight p i)

-- EACH FAULT ALONE: the class that the true planes give a fault is its class alone
abbrev pub FaultsAreClassedAlone : Type 0
FaultsAreClassedAlone = (p : Analysis) (i : ℕ) → i < fault_count p → class_of_fault p (true_planes p) i ≡ class_alone p i

-- ONE AFTER THE OTHER: the sums over all batches are those over all faults in their order, whatever the planes
abbrev pub SumsAreOfFaults : Type 0
SumsAreOfFaults = (p : Analysis) (planes : ℕ → Outcome)
    → total p (in_order p planes) ≡ sums_by (fault_share p (class_of_fault p planes)) (below (fault_count p))

-- so the sums over all batches with their true planes are those over the faults, each classed alone
abbrev pub TrueSumsAreOfFaultsAlone : Type 0
TrueSumsAreOfFaultsAlone = (p : Analysis)
    → total p (in_order p (true_planes p)) ≡ sums_by (fault_share p (class_alone p)) (below (fault_count p))
