use Rattle.std.proofs.Common.{◌≡◌, ℕ, ◌<◌, true, false, length}
use Rattle.alarm_points.specs.PointsFile.{observed}
use Rattle.circuit.specs.Value.{bit_at}
use Rattle.reach.specs.Paths.{LeadsToSome}
use Rattle.always_answers.specs.Steps.{net}
use Rattle.always_answers.proofs.nets.seen_nets.Given as goal

abbrev pub invariant-loop-n : goal.invariant-loop-n
invariant-loop-n l = record {
  size : length l.seen.items ≡ l.n;
  each : (k : ℕ) → k < l.n → (bit_at l.seen.items k ≡ true → LeadsToSome l.netlist (net k) (observed l.reach.points))
      × (bit_at l.seen.items k ≡ false → ¬ (LeadsToSome l.netlist (net k) (observed l.reach.points)));
}
