use Rattle.std.proofs.Common.{◌≡◌, ◌<◌, ◌&&◌, ℕ}
use Rattle.circuit.specs.Value.{driver_at}
use Rattle.place_set.specs.Places.{has}
use Rattle.differential_kernel.specs.Cone.{is_source}
use Rattle.differential_kernel.proofs.cone.find_sources.Given as goal

abbrev pub invariant-loop-n : goal.invariant-loop-n
invariant-loop-n l = record {
  bound : l.set.bound ≡ l.initial.set.bound;
  each : (i : ℕ) → i < l.n → has l.set i ≡ (has l.named i && is_source (driver_at l.netlist i));
}
