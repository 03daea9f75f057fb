-- What a whole run shows of faults, and when what was seen of them is all that they can show. Source: the cone of influence of nets.
use Rattle.std.specs.Prelude.{◌≡◌, ℕ, ◌<◌, ◌≤◌, ◌⊎◌, true, List, [], ◌∷◌, All, length, is_some, slice_index_or}
use Rattle.circuit.specs.declared.parts.Fault.{Fault}
use Rattle.circuit.specs.declared.parts.NetId.{NetId}
use Rattle.circuit.specs.Circuit.{Circuit}
use Rattle.workload.specs.declared.run.Run.{Run}
use Rattle.workload.specs.Runs.{is_test}
use Rattle.alarm_points.specs.declared.Points.{Points}
use Rattle.campaign_plan.specs.Danger.{golden, with_faults}
use Rattle.first_cycles.specs.Shown.{Shown}
use Rattle.reach.specs.Reached.{Reached}
use Rattle.fault_runs.specs.Records.{RunShown}
use Rattle.testbench.specs.Points.{alarm_at, goal_at}

-- THE RECORD has what counts of what a run shows: a silenced alarm counts in a test alone
pub record HasShownRun (points : Points) (s : Shown) (r : RunShown) : Type 0 where
  pub difference : (g : ℕ) → g < length points.goals → r.difference g ≡ s.difference (goal_at points.goals g)
  pub alarm : (a : ℕ) → a < length points.alarm → r.alarm a ≡ s.alarm (alarm_at points.alarm a)
  pub silenced : is_test s.kind ≡ true → (a : ℕ) → a < length points.alarm → is_some (r.silence a) ≡ s.is_silenced (alarm_at points.alarm a)

-- these faults change a net in no cycle of any run
abbrev pub NeverChange : Circuit → List Fault → NetId → Type 0
NeverChange c x net = (run : Run) (t : ℕ) → with_faults c x run t net ≡ golden c run t net

-- each goal has differed and each alarm point was raised, but for those that these faults never change
pub record HaveShownAll (c : Circuit) (points : Points) (x : List Fault) (r : RunShown) : Type 0 where
  pub goals : (g : ℕ) → g < length points.goals → (is_some (r.difference g) ≡ true) ⊎ All (NeverChange c x) (goal_at points.goals g).observe
  pub alarms : (a : ℕ) → a < length points.alarm → (is_some (r.alarm a) ≡ true) ⊎ NeverChange c x (alarm_at points.alarm a)

-- ---- what tells of faults that they never change an alarm point

-- an alarm point alone
abbrev pub alarm_alone : NetId → Points
alarm_alone net = record { goals = []; alarm = net ∷ [] }

-- the paths to each alarm point alone, or to the first of them
pub record ArePathsTo (c : Circuit) (points : Points) (paths : List Reached) : Type 0 where
  pub count : length paths ≤ length points.alarm
  pub each : (a : ℕ) (d : Reached) → a < length paths → slice_index_or paths a d ≡ record { circuit = c; points = alarm_alone (alarm_at points.alarm a) }
