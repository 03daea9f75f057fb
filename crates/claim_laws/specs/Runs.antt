-- The runs that a claim is about, and what it says nothing of.
use Rattle.std.specs.Prelude.{◌≡◌, ◌⊎◌, ◌+◌, ◌<◌, ◌≤◌, ℕ, Bool, true, false, List, All, Some}
use Rattle.circuit.specs.declared.parts.Fault.{Fault}
use Rattle.workload.specs.declared.run.Run.{Run}
use Rattle.workload.specs.Runs.{cycles_of, is_mission}
use Rattle.alarm_points.specs.declared.Goal.{Goal}
use Rattle.campaign_plan.specs.Danger.{differs, golden}
use Rattle.coverage_claim.specs.Claim.{Claim}
use Rattle.coverage_claim.specs.Stretch.{held_at}

-- lasts: the run has the claim's first cycle
-- held: a held input has its value in each cycle for which one is given
-- quiet: without faults no alarm net is 1 from that cycle on
pub record IsAdmitted (claim : Claim) (run : Run) : Type 0 where
  pub lasts : claim.from < cycles_of run
  pub held : (t : ℕ) → t < cycles_of run → All (λ h. (value : Bool) → held_at h t ≡ Some value → golden claim.circuit run t h.net ≡ value) claim.held
  pub quiet : (t : ℕ) → claim.from ≤ t → t < cycles_of run → All (λ net. golden claim.circuit run t net ≡ false) claim.points.alarm

-- so is each run of the mission; tests may be as they like
abbrev pub AreAdmitted : Claim → List Run → Type 0
AreAdmitted claim runs = All (λ run. is_mission run.kind ≡ true → IsAdmitted claim run) runs

-- what the claim says nothing of: a difference before its first cycle, or in the last cycles of the run, as many as the window and those ahead
pub record IsOutside (claim : Claim) (faults : List Fault) (run : Run) (goal : Goal) : Type 0 where
  pub t : ℕ
  pub within : t < cycles_of run
  pub differs_at : differs claim.circuit goal faults run t ≡ true
  pub outside : (t < claim.from) ⊎ (cycles_of run ≤ t + claim.window + claim.ahead)
