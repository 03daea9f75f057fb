use Rattle.std.proofs.Common.{◌≡◌, ◌<◌, ◌≤◌, ◌||◌, ◌&&◌, ℕ}
use Rattle.std.specs.Prelude.{◌==◌}
use Rattle.fm_base.specs.Planes.{bit}
use Rattle.workload.specs.Runs.{is_mission}
use Rattle.classifier.specs.Planes.{outcome_at}
use Rattle.first_cycles.specs.Shown.{Shown}
use Rattle.reading_planes.specs.Folded.{AreCyclesOf, AreWords, late_by, noticed_by, reading_at}
use Rattle.reading_planes.proofs.add.add_lane.Given as goal

-- the lane is in the planes so far, and the others are as they were
abbrev pub invariant-loop-r : goal.invariant-loop-r
invariant-loop-r l = record {
  danger : (s : Shown) (q k : ℕ) → AreCyclesOf l.points s l.cycles → q < l.r → k < 64
      → bit (outcome_at l.outcomes q).danger k ≡ (bit (outcome_at l.initial.outcomes q).danger k || (l.lane == k && (is_mission l.kind && late_by l.points l.ftti (reading_at l.readings q) s)));
  noticed : (s : Shown) (q k : ℕ) → AreCyclesOf l.points s l.cycles → q < l.r → k < 64
      → bit (outcome_at l.outcomes q).noticed k ≡ (bit (outcome_at l.initial.outcomes q).noticed k || (l.lane == k && noticed_by l.points (reading_at l.readings q) s));
  words : (q : ℕ) → q < l.r → AreWords (outcome_at l.outcomes q);
  left : (q : ℕ) → l.r ≤ q → outcome_at l.outcomes q ≡ outcome_at l.initial.outcomes q;
}
