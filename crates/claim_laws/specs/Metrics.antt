-- What the metrics of every plan are at least, where some of its faults are proved.
use Rattle.std.specs.Prelude.{◌≡◌, ◌⊎◌, ◌<◌, ◌≤◌, ℕ, Bool, true, false, not, ◌∷◌, [], List, All, Option, Some}
use Rattle.fm_base.specs.Lists.{below}
use Rattle.circuit.specs.declared.parts.Fault.{Fault}
use Rattle.circuit.specs.declared.parts.NetId.{NetId}
use Rattle.circuit.specs.Sound.{IsNet, IsNetlist}
use Rattle.metric_sums.specs.declared.Fraction.{Fraction}
use Rattle.metric_sums.specs.declared.Sums.{Sums}
use Rattle.metric_sums.specs.Metrics.{meets, spfm_permanent, spfm_transient}
use Rattle.metric_sums.specs.Totals.{sums_by}
use Rattle.alarm_points.specs.PointsFile.{observed}
use Rattle.campaign_plan.specs.Analysis.{Analysis, fault_count, fault_numbered}
use Rattle.campaign_plan.specs.Batches.{class_with, true_planes}
use Rattle.campaign_plan.specs.Danger.{is_dangerous}
use Rattle.campaign_plan.specs.Laws.{fault_share}
use Rattle.fmeda_report.specs.Report.{all_sums}
use Rattle.reach.specs.Paths.{CanChangeSome}
use Rattle.coverage_claim.specs.Claim.{Claim}
use Rattle.claim_laws.specs.Faults.{LieWithin}
use Rattle.claim_laws.specs.Laws.{FitsIn, IsLeftOpen, Stands}
use Rattle.claim_laws.specs.Runs.{AreAdmitted}

-- the sums where each fault that isn't proved is dangerous, and no other
abbrev pub open_sums : Analysis → (ℕ → Bool) → Sums
open_sums p proved = sums_by (fault_share p (λ i. class_with p i (not (proved i)) true)) (below (fault_count p))

-- the true sums of the plan
abbrev pub true_sums : Analysis → Sums
true_sums p = all_sums p (true_planes p)

-- the same rates in all, and no more danger
pub record AreAtMost (sums most : Sums) : Type 0 where
  pub permanent_all : sums.permanent_all ≡ most.permanent_all
  pub permanent_danger : sums.permanent_danger ≤ most.permanent_danger
  pub transient_all : sums.transient_all ≡ most.transient_all
  pub transient_danger : sums.transient_danger ≤ most.transient_danger

-- SUMS AT MOST, whatever the workload, where the proved faults aren't dangerous in it
abbrev pub SumsAreAtMost : Type 0
SumsAreAtMost = (p : Analysis) (proved : ℕ → Bool)
    → ((i : ℕ) → i < fault_count p → proved i ≡ true → is_dangerous p.circuit p.points p.settings.ftti p.runs (fault_numbered p i ∷ []) ≡ false)
    → AreAtMost (true_sums p) (open_sums p proved)

-- a claim that a fault of a plan isn't dangerous in it
-- within, fits: it is about this fault, this plan's netlist, points and intervals
-- admitted, closed: each run of the mission is admitted, and shows no difference that the claim says nothing of
pub record IsClaimed (p : Analysis) (fault : Fault) : Type 0 where
  pub claim : Claim
  pub order : List NetId
  pub circuit : claim.circuit ≡ p.circuit
  pub points : claim.points ≡ p.points
  pub stands : Stands claim order
  pub within : LieWithin claim.circuit (fault ∷ []) claim.region
  pub fits : FitsIn claim p.settings.ftti
  pub admitted : AreAdmitted claim p.runs
  pub closed : ¬ (IsLeftOpen claim (fault ∷ []) p.runs)

-- SO OF CLAIMS: whatever the workload, where each proved fault leads to no observation point or has a claim
abbrev pub ClaimsBoundSums : Type 0
ClaimsBoundSums = (p : Analysis) → IsNetlist p.circuit → All (IsNet p.circuit) (observed p.points) → (proved : ℕ → Bool)
    → ((i : ℕ) → i < fault_count p → proved i ≡ true
    → (¬ (CanChangeSome p.circuit (fault_numbered p i) (observed p.points))) ⊎ IsClaimed p (fault_numbered p i))
    → AreAtMost (true_sums p) (open_sums p proved)

-- value: a metric has a value where its least one has, of the same denominator
-- num: and is at least that
-- target: and meets each target that the least one meets
pub record IsAtLeast (metric : Sums → Option Fraction) (sums : Sums) (least : Fraction) : Type 0 where
  pub fraction : Fraction
  pub value : metric sums ≡ Some fraction
  pub den : fraction.den ≡ least.den
  pub num : least.num ≤ fraction.num
  pub target : (percent : ℕ) → meets percent least ≡ true → meets percent fraction ≡ true

-- SPFM AT LEAST
abbrev pub SpfmIsAtLeast : Type 0
SpfmIsAtLeast = (sums most : Sums) → AreAtMost sums most → (least : Fraction)
    → (spfm_permanent most ≡ Some least → IsAtLeast spfm_permanent sums least) × (spfm_transient most ≡ Some least → IsAtLeast spfm_transient sums least)
