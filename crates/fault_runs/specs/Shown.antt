-- What a run shows of a fault, cycle by cycle.
use Rattle.std.specs.Prelude.{◌≡◌, ℕ, ◌<◌, List, length}
use Rattle.circuit.specs.declared.parts.Fault.{Fault}
use Rattle.circuit.specs.Circuit.{Circuit}
use Rattle.workload.specs.declared.run.Run.{Run}
use Rattle.alarm_points.specs.declared.Points.{Points}
use Rattle.campaign_plan.specs.Danger.{differs}
use Rattle.first_cycles.specs.FirstCycles.{first_below, first_with, is_raised_at}
use Rattle.first_cycles.specs.Shown.{is_silenced_at}
use Rattle.fault_runs.specs.Records.{RunShown}
use Rattle.testbench.specs.Points.{alarm_at, goal_at}

-- a record has what the first n cycles of a run show of these faults
pub record HasShown (c : Circuit) (points : Points) (run : Run) (x : List Fault) (n : ℕ) (r : RunShown) : Type 0 where
  pub difference : (g : ℕ) → g < length points.goals → r.difference g ≡ first_below n (differs c (goal_at points.goals g) x run)
  pub alarm : (a : ℕ) → a < length points.alarm → r.alarm a ≡ first_below n (is_raised_at c x run (alarm_at points.alarm a))
  pub silence : (a : ℕ) → a < length points.alarm → r.silence a ≡ first_below n (is_silenced_at c x run (alarm_at points.alarm a))

-- a record was shown cycle t of a run with these faults
pub record SeesCycle (c : Circuit) (points : Points) (run : Run) (x : List Fault) (t : ℕ) (old new : RunShown) : Type 0 where
  pub difference : (g : ℕ) → g < length points.goals → new.difference g ≡ first_with (old.difference g) (differs c (goal_at points.goals g) x run t) t
  pub alarm : (a : ℕ) → a < length points.alarm → new.alarm a ≡ first_with (old.alarm a) (is_raised_at c x run (alarm_at points.alarm a) t) t
  pub silence : (a : ℕ) → a < length points.alarm → new.silence a ≡ first_with (old.silence a) (is_silenced_at c x run (alarm_at points.alarm a) t) t
