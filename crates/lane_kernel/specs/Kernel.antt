-- What a kernel keeps.
use Rattle.std.specs.Prelude.{◌≡◌, ℕ, Bool, false, length}
use Rattle.circuit.specs.Trace.{first_state}
use Rattle.lane_kernel.specs.declared.kernel.Kernel.{Kernel}
use Rattle.lane_words.specs.Bank.{Bank}
use Rattle.lane_kernel.specs.Walk.{AreNarrowRuns, IsNextPause}
use Rattle.lane_words.specs.Gates.{AreOps, IsProgram}
use Rattle.lane_words.specs.Forces.{AreIdle, AreSteady}
use Rattle.lane_kernel.specs.Marks.{AreFaultMarks, IsUnnamed, has_transients}

-- a kernel as contracts see it
abbrev pub kernel_bank : {W : Type 0} → Kernel W → Bank W
kernel_bank s = record {
  circuit = s.circuit.value;
  order = s.order.value;
  loads = s.loads.items;
  cycle = s.cycle;
  raw = s.raw.items;
  words = s.words.items;
}

-- flat arrays of the circuit, with pauses and forces for the faults of all lanes
pub record IsLaneKernel {W : Type 0} (lanes : ℕ) (bit : W → ℕ → Bool) (s : Kernel W) : Type 0 where
  pub program : IsProgram s.circuit.value s.order.value s.gates.items
  pub ops : AreOps lanes bit s.masks.items
  pub starts : s.starts.items ≡ first_state s.circuit.value
  pub loads : length s.loads.items ≡ lanes
  pub transient : s.transient ≡ has_transients s.loads.items
  pub marks : length s.marks.items ≡ length s.circuit.value.drivers
  pub marked : AreFaultMarks s.loads.items s.marks.items
  pub next : IsNextPause (length s.gates.items) s.next.items
  pub narrow : AreNarrowRuns s.gates.items s.next.items
  pub quiet : IsUnnamed s.loads.items s.gates.items s.next.items
  pub forces : length s.forces.items ≡ length s.circuit.value.drivers
  pub idle : AreIdle lanes bit s.loads.items s.forces.items
  -- forces that are not stale are those of each cycle without a pulse
  pub steady : s.stale ≡ false → AreSteady lanes bit s.loads.items s.forces.items
  pub raw : length s.raw.items ≡ length s.circuit.value.latches
  pub words : length s.words.items ≡ length s.circuit.value.drivers
