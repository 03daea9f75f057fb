use Rattle.std.proofs.Common.{◌≡◌, ◌+◌, ◌<◌, ◌≤◌, ℕ, length, take}
use Rattle.workload.specs.declared.run.Run.{Run}
use Rattle.workload.specs.Runs.{cycles_of}
use Rattle.alarm_points.specs.declared.Points.{Points}
use Rattle.alarm_points.specs.Watch.{KeepsIntervals, window_at}
use Rattle.campaign_plan.specs.Danger.{is_raised}
use Rattle.fm_base.specs.Planes.{bit}
use Rattle.row_audit.specs.Watched.{HasWatched}
use Rattle.row_audit.proofs.see.see_goals.Given as goal
use Rattle.testbench.specs.Points.{goal_at}

-- the goals so far have seen the cycle, and the windows of the others are as they were
abbrev pub invariant-loop-g : goal.invariant-loop-g
invariant-loop-g o l = record {
  keeps : KeepsIntervals l.initial.windows l.windows;
  count : length l.windows.windows ≡ length l.goals;
  done : (points : Points) (run : Run) (t h : ℕ) → t < cycles_of run → h < l.g → o.B.Circuits.IsAfter l.circuits (take (t + 1) run.vectors)
      → ((k : ℕ) → k < 64 → bit l.raised k ≡ is_raised (o.B.Circuits.loaded l.circuits).circuit points ((o.B.Circuits.loaded l.circuits).faults l.word k) run t)
      → HasWatched (o.B.Circuits.loaded l.circuits).circuit points run ((o.B.Circuits.loaded l.circuits).faults l.word) (goal_at l.goals h) t (window_at l.initial.windows h)
      → HasWatched (o.B.Circuits.loaded l.circuits).circuit points run ((o.B.Circuits.loaded l.circuits).faults l.word) (goal_at l.goals h) (t + 1) (window_at l.windows h);
  left : (h : ℕ) → l.g ≤ h → window_at l.windows h ≡ window_at l.initial.windows h;
}
