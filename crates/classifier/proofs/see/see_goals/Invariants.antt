use Rattle.std.proofs.Common.{◌≡◌, ◌+◌, ◌<◌, ◌≤◌, ℕ, List, take}
use Rattle.circuit.specs.declared.parts.Fault.{Fault}
use Rattle.workload.specs.declared.run.Run.{Run}
use Rattle.workload.specs.Runs.{cycles_of}
use Rattle.alarm_points.specs.FourWatches.{windows_at}
use Rattle.alarm_points.specs.Watch.{window_at}
use Rattle.campaign_plan.specs.Danger.{is_raised}
use Rattle.fm_base.specs.Planes.{bit}
use Rattle.classifier.specs.Noise.{noise_at}
use Rattle.classifier.specs.Seen.{AllKeepIntervals, HasSeen, IsWatched}
use Rattle.classifier.proofs.see.see_goals.Given as goal
use Rattle.testbench.specs.Points.{goal_at}

-- the goals so far have seen the cycle in each word, and the windows of the others are as they were
abbrev pub invariant-loop-g : goal.invariant-loop-g
invariant-loop-g o l = record {
  keeps : AllKeepIntervals l.initial.windows l.windows;
  done : (run : Run) (faults : ℕ → List Fault) (known word t left h : ℕ) → t < cycles_of run → (o.F.Followed.in_run l.lanes).IsAfter (take (t + 1) run.vectors)
      → word < o.F.Followed.words
      → ((k : ℕ) → k < 64 → bit (noise_at l.noise word).raised k ≡ is_raised (o.F.Followed.in_run l.lanes).load.circuit l.points ((o.F.Followed.in_run l.lanes).faults word k) run t)
      → IsWatched (o.F.Followed.in_run l.lanes).load.circuit l.points run faults known t ((o.F.Followed.in_run l.lanes).faults word) (windows_at l.initial.windows word) left
      → h < l.g
      → HasSeen (o.F.Followed.in_run l.lanes).load.circuit l.points (windows_at l.initial.windows word).ftti run faults known (goal_at l.points.goals h) (t + 1)
      (window_at (windows_at l.windows word) h);
  left : (word h : ℕ) → l.g ≤ h → window_at (windows_at l.windows word) h ≡ window_at (windows_at l.initial.windows word) h;
}
