-- What a kernel keeps.
use Rattle.std.specs.Prelude.{◌≡◌, ℕ, Bool, true, length}
use Rattle.circuit.specs.Order.{IsOrder}
use Rattle.circuit.specs.Sound.{IsNetlist}
use Rattle.golden_difference.specs.Lanes.{Lanes}
use Rattle.differential_kernel.specs.declared.lanes.DifferentialLanes.TheInside.{Inside}
use Rattle.differential_kernel.specs.Cone.{IsConeOf}
use Rattle.differential_kernel.specs.Forces.{has_stuck}
use Rattle.differential_kernel.specs.Noted.{AreFaultsNoted}
use Rattle.differential_kernel.specs.Parts.{AreForcesOf, AreLatchesOf, IsProgramOf}
use Rattle.differential_kernel.specs.Shown.{AreShownNetsOf, all_shown}

-- a kernel as contracts see it
abbrev pub lanes_of : {W : Type 0} → ℕ → (W → ℕ → Bool) → Inside W → Lanes W
lanes_of lanes bit s = record {
  circuit = s.circuit.value;
  order = s.order.value;
  loads = s.loads.items;
  in_force = s.in_force.items;
  cycle = s.cycle;
  raw = s.latches.raw.items;
  shown = all_shown lanes bit (length s.circuit.value.drivers) s.nets;
}

-- the nets that differ, and the latches, are in sets; the forces are those of the faults of all lanes once these are noted
pub record IsDifferenceKernel {W : Type 0} (lanes : ℕ) (bit : W → ℕ → Bool) (s : Inside W) : Type 0 where
  pub sound : IsNetlist s.circuit.value
  pub ordered : IsOrder s.circuit.value s.order.value
  pub program : IsProgramOf lanes bit s.circuit.value s.order.value s.program
  pub given : length s.loads.items ≡ lanes
  pub whole : s.whole ≡ true → s.in_force.items ≡ s.loads.items
  pub loads : length s.in_force.items ≡ lanes
  pub acts_bound : s.acts.bound ≡ 65536
  pub stuck : s.noted ≡ true → s.stuck ≡ has_stuck s.in_force.items
  pub noted : s.noted ≡ true → AreFaultsNoted lanes bit s.in_force.items s.stale s.acts s.forces
  pub forces : AreForcesOf lanes bit (length s.circuit.value.drivers) s.forces
  pub latches : AreLatchesOf lanes bit s.circuit.value s.latches
  pub nets : AreShownNetsOf lanes bit (record { circuit = s.circuit.value; order = s.order.value }) s.nets
  pub cone : IsConeOf (record { circuit = s.circuit.value; order = s.order.value }) s.pace.cone
