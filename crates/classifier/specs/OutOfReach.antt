-- Lanes in which points are out of reach: whatever is run, their faults change none of them. Source: the cone of influence.
use Rattle.std.specs.Prelude.{◌≡◌, ℕ, ◌<◌, ◌||◌, true, false, List, All, length, slice_index_or}
use Rattle.circuit.specs.declared.parts.Fault.{Fault}
use Rattle.circuit.specs.Circuit.{Circuit}
use Rattle.workload.specs.declared.run.Run.{Run}
use Rattle.alarm_points.specs.declared.Points.{Points}
use Rattle.fm_base.specs.Planes.{bit}
use Rattle.campaign_plan.specs.Danger.{differs, is_raised, is_silenced}
use Rattle.campaign_plan.specs.declared.Outcome.{Outcome}
use Rattle.testbench.specs.Load.{Load, lane_faults}
use Rattle.classifier.specs.Planes.{outcome_at}
use Rattle.classifier.specs.declared.decided.Decided.{Decided}
use Rattle.classifier.specs.declared.reached.OutOfReach.{OutOfReach}

-- in no cycle of any run do these faults raise or silence an alarm
pub record IsDeaf (c : Circuit) (points : Points) (x : List Fault) : Type 0 where
  pub raise : (run : Run) (t : ℕ) → is_raised c points x run t ≡ false
  pub silence : (run : Run) (t : ℕ) → is_silenced c points x run t ≡ false

-- in no cycle of any run do they change an observation point
abbrev pub IsHarmless : Circuit → Points → List Fault → Type 0
IsHarmless c points x = (run : Run) (t : ℕ) → All (λ goal. differs c goal x run t ≡ false) points.goals

-- the lanes that are marked are so, with these faults
pub record AreOutOfReach (c : Circuit) (points : Points) (faults : ℕ → List Fault) (reach : OutOfReach) : Type 0 where
  pub alarm : (k : ℕ) → k < 64 → bit reach.alarm k ≡ true → IsDeaf c points (faults k)
  pub observation : (k : ℕ) → k < 64 → bit reach.observation k ≡ true → IsHarmless c points (faults k)

-- those of a word
abbrev pub reach_at : List OutOfReach → ℕ → OutOfReach
reach_at reach word = slice_index_or reach word (record { alarm = 0; observation = 0 })

-- the same in each word, with the faults that it was loaded with
abbrev pub AreAllOutOfReach : Circuit → Points → ℕ → Load → List OutOfReach → Type 0
AreAllOutOfReach c points words load reach = (word : ℕ) → word < words → AreOutOfReach c points (lane_faults load word) (reach_at reach word)

-- danger, or notice, is decided before a run: earlier runs have shown it, or no run can show it
pub record IsDecidedBy (outcome : Outcome) (reach : OutOfReach) (decided : Decided) : Type 0 where
  pub danger : (k : ℕ) → bit decided.danger k ≡ (bit outcome.danger k || bit reach.observation k)
  pub notice : (k : ℕ) → bit decided.notice k ≡ (bit outcome.noticed k || bit reach.alarm k)

-- what is decided in a word
abbrev pub decided_at : List Decided → ℕ → Decided
decided_at decided word = slice_index_or decided word (record { danger = 0; notice = 0 })

-- the same in each word
abbrev pub AreAllDecidedBy : List Outcome → List OutOfReach → List Decided → Type 0
AreAllDecidedBy outcomes reach decided = (word : ℕ) → word < length outcomes → IsDecidedBy (outcome_at outcomes word) (reach_at reach word) (decided_at decided word)
