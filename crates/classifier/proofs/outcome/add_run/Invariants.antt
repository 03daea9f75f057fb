use Rattle.std.proofs.Common.{◌≡◌, ◌<◌, ◌≤◌, ◌++◌, ◌∷◌, [], ℕ, List, length}
use Rattle.circuit.specs.Circuit.{Circuit}
use Rattle.workload.specs.declared.run.Run.{Run}
use Rattle.alarm_points.specs.declared.Points.{Points}
use Rattle.alarm_points.specs.FourWatches.{windows_at}
use Rattle.testbench.specs.Load.{Load, lane_faults}
use Rattle.classifier.specs.Planes.{HasPlanes, HaveAllPlanes, outcome_at}
use Rattle.classifier.specs.Seen.{HasBeenRun}
use Rattle.classifier.specs.OutOfReach.{AreAllDecidedBy, AreAllOutOfReach}
use Rattle.classifier.specs.declared.reached.OutOfReach.{OutOfReach}
use Rattle.classifier.proofs.outcome.add_run.Given as goal

-- the run is added in the words so far, and the others are as they were
abbrev pub invariant-loop-word : goal.invariant-loop-word
invariant-loop-word l = record {
  done : (c : Circuit) (points : Points) (runs : List Run) (run : Run) (load : Load) (reach : List OutOfReach) → run.kind ≡ l.kind
      → AreAllOutOfReach c points (length l.initial.outcomes) load reach
      → AreAllDecidedBy l.initial.outcomes reach l.decided
      → HasBeenRun c points run (length l.initial.outcomes) load l.decided l.windows l.left
      → HaveAllPlanes c points runs (length l.initial.outcomes) load l.windows l.initial.outcomes
      → (word : ℕ) → word < l.word
      → HasPlanes c points (windows_at l.windows word).ftti (runs ++ run ∷ []) (lane_faults load word) (outcome_at l.outcomes word);
  left : (word : ℕ) → l.word ≤ word → outcome_at l.outcomes word ≡ outcome_at l.initial.outcomes word;
}
