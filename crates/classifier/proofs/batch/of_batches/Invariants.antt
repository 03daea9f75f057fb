use Rattle.std.proofs.Common.{◌≡◌, ◌<◌, ◌≤◌, ℕ, List, length}
use Rattle.circuit.specs.declared.parts.Fault.{Fault}
use Rattle.circuit.specs.Circuit.{Circuit}
use Rattle.workload.specs.declared.run.Run.{Run}
use Rattle.alarm_points.specs.declared.Points.{Points}
use Rattle.classifier.specs.Batch.{alone_in, batch_at, outcome_for}
use Rattle.classifier.specs.Planes.{HasPlanes, outcome_at}
use Rattle.classifier.proofs.batch.of_batches.Given as goal

-- the words so far are masked, and the others are as they were
abbrev pub invariant-loop-word : goal.invariant-loop-word
invariant-loop-word l = record {
  count : length l.outcomes ≡ 4;
  done : (c : Circuit) (points : Points) (ftti : ℕ) (runs : List Run) (word : ℕ) (lanes : ℕ → List Fault) → word < l.word
      → ((k : ℕ) → k < 64 → lanes k ≡ alone_in l.faults (batch_at l.batches word) k)
      → HasPlanes c points ftti runs lanes (outcome_at l.initial.outcomes word)
      → outcome_at l.outcomes word ≡ outcome_for c points ftti runs l.faults (batch_at l.batches word);
  left : (word : ℕ) → l.word ≤ word → outcome_at l.outcomes word ≡ outcome_at l.initial.outcomes word;
}
