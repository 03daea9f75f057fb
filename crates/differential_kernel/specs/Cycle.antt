-- What one cycle is run with, and what it does.
use Rattle.std.specs.Prelude.{◌≡◌, ℕ, ◌<◌, Bool, List, length}
use Rattle.circuit.specs.Circuit.{Circuit}
use Rattle.circuit.specs.Order.{IsOrder}
use Rattle.circuit.specs.Sound.{IsNetlist}
use Rattle.circuit.specs.Value.{Cycle, bit_at, driver_at, net_value}
use Rattle.golden_difference.specs.Beside.{latched}
use Rattle.lane_words.specs.Bits.{either}
use Rattle.lane_words.specs.declared.force.Force.{Force}
use Rattle.lane_words.specs.Forces.{AreForces}
use Rattle.lane_words.specs.Gates.{latch_at, plane}
use Rattle.differential_kernel.specs.declared.cone.Cone.{Cone}
use Rattle.differential_kernel.specs.declared.force.Forces.{Forces}
use Rattle.differential_kernel.specs.declared.golden_cycle.GoldenCycle.{GoldenCycle}
use Rattle.differential_kernel.specs.declared.latches.LatchDifferences.{LatchDifferences}
use Rattle.differential_kernel.specs.declared.program.Program.{Program}
use Rattle.differential_kernel.specs.Cone.{IsConeOf}
use Rattle.differential_kernel.specs.Differences.{Grows}
use Rattle.differential_kernel.specs.Forces.{ChangeOnly}
use Rattle.differential_kernel.specs.Parts.{AreForcesOf, AreLatchesOf, IsProgramOf}
use Rattle.differential_kernel.specs.Walk.{IsPair}

-- the order is one of the tables of a sound netlist, and the readers are those in this order
pub record IsGoldenCycle (cycle : GoldenCycle) : Type 0 where
  pub sound : IsNetlist cycle.netlist.now
  pub ordered : IsOrder cycle.netlist.now cycle.order.now
  pub fanout : cycle.fanout.now ≡ record { circuit = cycle.netlist.now; order = cycle.order.now }

-- the program is of this netlist and this order, each net has its force, and these change values on nets of two sets alone
pub record FitTogether {W : Type 0} (lanes : ℕ) (bit : W → ℕ → Bool) (cycle : GoldenCycle) (tables : Program W) (acting : Forces W) : Type 0 where
  pub golden : IsGoldenCycle cycle
  pub program : IsProgramOf lanes bit cycle.netlist.now cycle.order.now tables
  pub forces : AreForcesOf lanes bit (length cycle.netlist.now.drivers) acting
  pub changed : ChangeOnly lanes bit acting.zeros acting.ones acting.by_net.items

-- the net of each latch differs in what the latch holds, and no other net differs
abbrev pub ShowLatches : {W : Type 0} → ℕ → (W → ℕ → Bool) → Circuit → List W → List W → Type 0
ShowLatches lanes bit c raw words =
    (k n : ℕ) → k < lanes → n < length c.drivers → bit_at (plane bit k words) n ≡ latched (bit_at (plane bit k raw)) (driver_at c n)

-- the cone is one of this circuit, and what is forced was named when it was made
pub record CanSweep {W : Type 0} (lanes : ℕ) (bit : W → ℕ → Bool) (cycle : GoldenCycle) (acting : Forces W) (reached : Cone) : Type 0 where
  pub golden : IsGoldenCycle cycle
  pub forces : AreForcesOf lanes bit (length cycle.netlist.now.drivers) acting
  pub cone : IsConeOf cycle.fanout.now reached
  pub named : Grows acting.named reached.named

-- in each lane the nets are shown to differ in what those of the two runs do, where the latches began so
abbrev pub NetsDiffer : {W : Type 0} → ℕ → (W → ℕ → Bool) → GoldenCycle → List (Force W) → List W → (ℕ → ℕ → Bool) → Type 0
NetsDiffer {W} lanes bit cycle forces raw shown =
    (k : ℕ) (x golden : Cycle) → k < lanes → IsPair cycle.netlist.now cycle.row.now x golden → AreForces bit k forces x
    → ((l : ℕ) → l < length cycle.netlist.now.latches → bit_at (plane bit k raw) l ≡ either (bit_at x.state l) (bit_at golden.state l))
    → (n : ℕ) → n < length cycle.netlist.now.drivers → shown k n ≡ either (net_value x n) (net_value golden n)

-- each latch holds what the net is shown to differ in that it takes
abbrev pub LatchesTake : {W : Type 0} → ℕ → (W → ℕ → Bool) → Circuit → (ℕ → ℕ → Bool) → List W → Type 0
LatchesTake lanes bit c shown raw =
    (k l : ℕ) → k < lanes → l < length c.latches → bit_at (plane bit k raw) l ≡ shown k (latch_at c.latches l).from.0

-- one cycle, from what the latches held to what they hold then, and what the nets are shown to differ in
pub record RunsCycle {W : Type 0} (lanes : ℕ) (bit : W → ℕ → Bool) (cycle : GoldenCycle) (forces : Forces W) (old new : LatchDifferences W) (shown : ℕ → ℕ → Bool) : Type 0 where
  pub values : NetsDiffer lanes bit cycle forces.by_net.items old.raw.items shown
  pub raw : LatchesTake lanes bit cycle.netlist.now shown new.raw.items
  pub latches : AreLatchesOf lanes bit cycle.netlist.now new
