use Rattle.std.proofs.Common.{◌≡◌, ◌+◌, ◌*◌, ◌<◌, ◌≤◌, ◌||◌, ◌&&◌, ℕ, length}
use Rattle.fm_base.specs.Planes.{bit}
use Rattle.workload.specs.Runs.{is_mission}
use Rattle.classifier.specs.Planes.{outcome_at}
use Rattle.first_cycles.specs.Shown.{Shown}
use Rattle.fault_runs.specs.Records.{record_of}
use Rattle.fault_runs.specs.Whole.{HasShownRun}
use Rattle.reading_planes.specs.Folded.{AreCyclesFor, AreWords, late_by, noticed_by, reading_at}
use Rattle.reading_planes.proofs.runs.add_lanes.Given as goal

-- the lanes so far are in the planes, and the others are as they were
abbrev pub invariant-loop-lane : goal.invariant-loop-lane
invariant-loop-lane l = record {
  made : AreCyclesFor l.points l.cycles;
  danger : (shown : ℕ → Shown) (r k : ℕ) → ((j : ℕ) → (shown j).kind ≡ l.kind) → ((j : ℕ) → j < 64 → HasShownRun l.points (shown j) (record_of l.records (l.word * 64 + j))) → r < length l.readings → k < l.lane
      → bit (outcome_at l.outcomes r).danger k ≡ (bit (outcome_at l.initial.outcomes r).danger k || (is_mission l.kind && late_by l.points l.ftti (reading_at l.readings r) (shown k)));
  noticed : (shown : ℕ → Shown) (r k : ℕ) → ((j : ℕ) → (shown j).kind ≡ l.kind) → ((j : ℕ) → j < 64 → HasShownRun l.points (shown j) (record_of l.records (l.word * 64 + j))) → r < length l.readings → k < l.lane
      → bit (outcome_at l.outcomes r).noticed k ≡ (bit (outcome_at l.initial.outcomes r).noticed k || noticed_by l.points (reading_at l.readings r) (shown k));
  danger_left : (shown : ℕ → Shown) (r k : ℕ) → ((j : ℕ) → (shown j).kind ≡ l.kind) → ((j : ℕ) → j < 64 → HasShownRun l.points (shown j) (record_of l.records (l.word * 64 + j))) → r < length l.readings → l.lane ≤ k → k < 64
      → bit (outcome_at l.outcomes r).danger k ≡ bit (outcome_at l.initial.outcomes r).danger k;
  noticed_left : (shown : ℕ → Shown) (r k : ℕ) → ((j : ℕ) → (shown j).kind ≡ l.kind) → ((j : ℕ) → j < 64 → HasShownRun l.points (shown j) (record_of l.records (l.word * 64 + j))) → r < length l.readings → l.lane ≤ k → k < 64
      → bit (outcome_at l.outcomes r).noticed k ≡ bit (outcome_at l.initial.outcomes r).noticed k;
  words : (r : ℕ) → r < length l.readings → AreWords (outcome_at l.initial.outcomes r) → AreWords (outcome_at l.outcomes r);
}
