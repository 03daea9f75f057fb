-- Laws of claims on every workload: what is so of each admitted run and of all faults within the region.
use Rattle.std.specs.Prelude.{◌≡◌, ◌+◌, ◌<◌, ◌≤◌, ℕ, Bool, true, false, List, ◌∷◌, [], All, Contains, if◌then◌else◌}
use Rattle.circuit.specs.declared.parts.Fault.{Fault}
use Rattle.circuit.specs.declared.parts.NetId.{NetId}
use Rattle.circuit.specs.Circuit.{Circuit}
use Rattle.circuit.specs.Order.{IsOrder}
use Rattle.circuit.specs.Sound.{IsNet, IsNetlist}
use Rattle.circuit.specs.Value.{bit_at}
use Rattle.workload.specs.declared.run.Run.{Run}
use Rattle.workload.specs.Runs.{cycles_of, is_mission}
use Rattle.alarm_points.specs.declared.Goal.{Goal}
use Rattle.alarm_points.specs.declared.Points.{Points}
use Rattle.alarm_points.specs.Interval.{interval_of}
use Rattle.alarm_points.specs.PointsFile.{observed}
use Rattle.campaign_plan.specs.Danger.{differs, is_dangerous, is_raised}
use Rattle.reach.specs.Paths.{ActsOn, CanChangeSome}
use Rattle.coverage_claim.specs.Claim.{Claim, IsNeverEarly, IsProved}
use Rattle.coverage_claim.specs.Region.{Region, marked, region_of}
use Rattle.coverage_claim.specs.declared.parts.Site.TheVariants.{Free, Intact}
use Rattle.claim_laws.specs.Faults.{LieWithin, WaitsUntil}
use Rattle.claim_laws.specs.Runs.{AreAdmitted, IsAdmitted, IsOutside}

-- ---- the claim

-- netlist, ordered: the circuit is a netlist without a loop
-- settled: each held input has its later value from the claim's first cycle on
-- proved: the claim is proved
pub record Stands (claim : Claim) (order : List NetId) : Type 0 where
  pub netlist : IsNetlist claim.circuit
  pub ordered : IsOrder claim.circuit order
  pub settled : All (λ h. h.from ≤ claim.from) claim.held
  pub proved : IsProved claim

-- an alarm is raised, at most so many cycles after this one as the window has
pub record AlarmComes (claim : Claim) (faults : List Fault) (run : Run) (t : ℕ) : Type 0 where
  pub at : ℕ
  pub late : at ≤ t + claim.window
  pub early : claim.from ≤ at
  pub raised : is_raised claim.circuit claim.points faults run at ≡ true

-- THE ALARM COMES: whatever the run and whatever the faults of the region, where an observation point differs and the run lasts
abbrev pub AlarmsCome : Type 0
AlarmsCome = (claim : Claim) (order : List NetId) → Stands claim order → (faults : List Fault) → LieWithin claim.circuit faults claim.region
    → (run : Run) → IsAdmitted claim run → (goal : Goal) → Contains claim.points.goals goal
    → (t : ℕ) → claim.from ≤ t → t + claim.window + claim.ahead < cycles_of run → differs claim.circuit goal faults run t ≡ true → AlarmComes claim faults run t

-- a run of the mission and a goal for which there is a difference that the claim says nothing of
pub record IsLeftOpen (claim : Claim) (faults : List Fault) (runs : List Run) : Type 0 where
  pub run : Run
  pub is_of : Contains runs run
  pub mission : is_mission run.kind ≡ true
  pub goal : Goal
  pub goal_of : Contains claim.points.goals goal
  pub outside : IsOutside claim faults run goal

-- no goal is violated earlier than the window allows
abbrev pub FitsIn : Claim → ℕ → Type 0
FitsIn claim ftti = All (λ goal. claim.window ≤ interval_of ftti goal) claim.points.goals

-- NOT DANGEROUS, FOR EVERY WORKLOAD: faults of the region are dangerous only by a difference before the claim's first cycle or in the last
-- cycles of a run
abbrev pub DangerIsLeftOpen : Type 0
DangerIsLeftOpen = (claim : Claim) (order : List NetId) → Stands claim order → (faults : List Fault) → LieWithin claim.circuit faults claim.region
    → (ftti : ℕ) → FitsIn claim ftti → (runs : List Run) → AreAdmitted claim runs
    → is_dangerous claim.circuit claim.points ftti runs faults ≡ true → IsLeftOpen claim faults runs

-- AND THE DIFFERENCE ISN'T EARLY where the lead-in has none
abbrev pub DangerIsLast : Type 0
DangerIsLast = (claim : Claim) (order : List NetId) → Stands claim order → IsNeverEarly claim
    → (faults : List Fault) → LieWithin claim.circuit faults claim.region → (ftti : ℕ) → FitsIn claim ftti → (runs : List Run) → AreAdmitted claim runs
    → is_dangerous claim.circuit claim.points ftti runs faults ≡ true
    → (found : IsLeftOpen claim faults runs) × (claim.from ≤ found.outside.t) × (cycles_of found.run ≤ found.outside.t + claim.window + claim.ahead)

-- NOR THAT OF FLIPS AND PULSES from that cycle on
abbrev pub LaterDangerIsLast : Type 0
LaterDangerIsLast = (claim : Claim) (order : List NetId) → Stands claim order → All (IsNet claim.circuit) (observed claim.points)
    → (faults : List Fault) → LieWithin claim.circuit faults claim.region → All (WaitsUntil claim.from) faults
    → (ftti : ℕ) → FitsIn claim ftti → (runs : List Run) → AreAdmitted claim runs
    → is_dangerous claim.circuit claim.points ftti runs faults ≡ true
    → (found : IsLeftOpen claim faults runs) × (claim.from ≤ found.outside.t) × (cycles_of found.run ≤ found.outside.t + claim.window + claim.ahead)

-- SO WITH A WINDOW OF 0 and none ahead they are dangerous in no such run
abbrev pub AtOnceIsNotDangerous : Type 0
AtOnceIsNotDangerous = (claim : Claim) (order : List NetId) → Stands claim order → IsNeverEarly claim → claim.window ≡ 0 → claim.ahead ≡ 0
    → (faults : List Fault) → LieWithin claim.circuit faults claim.region → (ftti : ℕ) (runs : List Run) → AreAdmitted claim runs
    → is_dangerous claim.circuit claim.points ftti runs faults ≡ false

-- ---- structure alone

-- NO PATH, NO DANGER: in any runs
abbrev pub UnreachedIsNotDangerous : Type 0
UnreachedIsNotDangerous = (c : Circuit) (points : Points) → IsNetlist c → All (IsNet c) (observed points)
    → (faults : List Fault) → All (λ fault. ¬ (CanChangeSome c fault (observed points))) faults
    → (ftti : ℕ) (runs : List Run) → is_dangerous c points ftti runs faults ≡ false

-- ---- regions

-- ONE FAULT lies within its region
abbrev pub OneFaultLiesWithin : Type 0
OneFaultLiesWithin = (c : Circuit) (fault : Fault) → LieWithin c (fault ∷ []) (region_of c fault)

-- FAULTS ON SOME NETS lie within the region in which anything is done at these
abbrev pub free_at : (ℕ → Bool) → Region
free_at test net = if test net then Free else Intact

abbrev pub FaultsLieWithin : Type 0
FaultsLieWithin = (c : Circuit) (test : ℕ → Bool) (faults : List Fault) → All (λ fault. (net : NetId) → ActsOn c net fault → test net.0 ≡ true) faults
    → LieWithin c faults (free_at test)

-- so do those on marked nets
abbrev pub MarkedLieWithin : Type 0
MarkedLieWithin = (c : Circuit) (marks : List Bool) (faults : List Fault) → All (λ fault. (net : NetId) → ActsOn c net fault → bit_at marks net.0 ≡ true) faults
    → LieWithin c faults (marked marks)
