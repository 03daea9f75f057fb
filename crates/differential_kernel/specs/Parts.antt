-- The parts of a kernel, as they fit a netlist and an order of its tables.
use Rattle.std.specs.Prelude.{◌≡◌, ℕ, ◌+◌, Bool, List, length}
use Rattle.circuit.specs.declared.parts.NetId.{NetId}
use Rattle.circuit.specs.Circuit.{Circuit}
use Rattle.fanout.specs.Readers.{Ordered}
use Rattle.lane_words.specs.Gates.{AreOps, IsProgram}
use Rattle.differential_kernel.specs.declared.force.Forces.{Forces}
use Rattle.differential_kernel.specs.declared.latches.LatchDifferences.{LatchDifferences}
use Rattle.differential_kernel.specs.declared.nets.NetDifferences.{NetDifferences}
use Rattle.differential_kernel.specs.declared.program.Program.{Program}
use Rattle.differential_kernel.specs.Differences.{DifferOnlyIn}
use Rattle.differential_kernel.specs.Forces.{AreIdleOff}

-- each place has its table, and each operation its masks
pub record IsProgramOf {W : Type 0} (lanes : ℕ) (bit : W → ℕ → Bool) (c : Circuit) (order : List NetId) (program : Program W) : Type 0 where
  pub gates : IsProgram c order program.gates.items
  pub ops : AreOps lanes bit program.ops.items

-- each of so many nets has its force, and those that aren't named are left as they are
pub record AreForcesOf {W : Type 0} (lanes : ℕ) (bit : W → ℕ → Bool) (nets : ℕ) (forces : Forces W) : Type 0 where
  pub named : forces.named.bound ≡ nets
  pub each : length forces.by_net.items ≡ nets
  pub idle : AreIdleOff lanes bit forces.named forces.by_net.items
  pub zeros : forces.zeros.bound ≡ nets
  pub ones : forces.ones.bound ≡ nets

-- each latch has its word, and those that differ are live
pub record AreLatchesOf {W : Type 0} (lanes : ℕ) (bit : W → ℕ → Bool) (c : Circuit) (latches : LatchDifferences W) : Type 0 where
  pub raw : length latches.raw.items ≡ length c.latches
  pub live : DifferOnlyIn lanes bit latches.live latches.raw.items

-- each net has its word, those that differ are touched, and each place of a table or a latch may be marked
pub record AreNetsOf {W : Type 0} (lanes : ℕ) (bit : W → ℕ → Bool) (o : Ordered) (nets : NetDifferences W) : Type 0 where
  pub words : length nets.words.items ≡ length o.circuit.drivers
  pub touched : DifferOnlyIn lanes bit nets.touched nets.words.items
  pub marks : nets.marks.bound ≡ length o.order + length o.circuit.latches
