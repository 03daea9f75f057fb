use Rattle.std.proofs.Common.{◌≡◌, ◌<◌, ◌≤◌, ℕ, List, length}
use Rattle.std.specs.Prelude.{Option}
use Rattle.circuit.specs.declared.parts.Fault.{Fault}
use Rattle.workload.specs.declared.run.Run.{Run}
use Rattle.campaign_plan.specs.Danger.{differs}
use Rattle.lane_words.specs.Loads.{loaded_faults}
use Rattle.fault_runs.specs.First.{IsNotIn, fault_in, first_of}
use Rattle.fault_runs.specs.Records.{IsGoalKnown, goal_cycles}
use Rattle.fault_runs.specs.Stretch.{IsAfterCycle}
use Rattle.fault_runs.proofs.see.see_goals.Given as goal
use Rattle.first_cycles.specs.FirstCycles.{first_with}
use Rattle.testbench.specs.Points.{goal_at}

-- the goals so far have seen the cycle, and the others are as they were
abbrev pub invariant-loop-g : goal.invariant-loop-g
invariant-loop-g o l = record {
  count : length l.firsts ≡ length l.goals;
  places : (h : ℕ) → length (goal_cycles l.firsts h).cycles ≡ length (goal_cycles l.initial.firsts h).cycles;
  known : (h : ℕ) → h < length l.goals → IsGoalKnown l.group (goal_cycles l.firsts h);
  done : (run : Run) (draw : List (List (Option Fault))) (row : List ℕ) (h k : ℕ) → h < l.g
      → IsAfterCycle o.W.Word.lanes o.W.Word.lane_bit run l.t draw l.group row l.lanes → k < length l.group
      → first_of (goal_cycles l.firsts h) (fault_in l.group k)
      ≡ first_with (first_of (goal_cycles l.initial.firsts h) (fault_in l.group k)) (differs l.lanes.circuit (goal_at l.goals h) (loaded_faults draw (fault_in l.group k)) run l.t) l.t;
  others : (h i : ℕ) → IsNotIn l.group i → first_of (goal_cycles l.firsts h) i ≡ first_of (goal_cycles l.initial.firsts h) i;
  left : (h : ℕ) → l.g ≤ h → goal_cycles l.firsts h ≡ goal_cycles l.initial.firsts h;
}
