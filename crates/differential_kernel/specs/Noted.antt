-- What is noted of nets while a cycle is run, and of faults between cycles.
use Rattle.std.specs.Prelude.{◌≡◌, ℕ, Bool, false, List, length, Option}
use Rattle.circuit.specs.declared.parts.Fault.{Fault}
use Rattle.fanout.specs.Readers.{Ordered}
use Rattle.lane_words.specs.Forces.{AreIdle, AreSteady}
use Rattle.place_set.specs.Places.{Places}
use Rattle.differential_kernel.specs.declared.force.Forces.{Forces}
use Rattle.differential_kernel.specs.declared.nets.NetDifferences.{NetDifferences}
use Rattle.differential_kernel.specs.Differences.{AreMarked, Grows}
use Rattle.differential_kernel.specs.Forces.{AreActs, AreNamed, ChangeOnly}
use Rattle.differential_kernel.specs.Parts.{AreNetsOf}

-- the nets of a kernel, where the places from here on that read one that differs are marked
pub record AreNoted {W : Type 0} (lanes : ℕ) (bit : W → ℕ → Bool) (o : Ordered) (from : ℕ) (own : NetDifferences W) : Type 0 where
  pub nets : AreNetsOf lanes bit o own
  pub marked : AreMarked lanes bit o from own.words.items own.marks

-- no mark is taken away, and where each place from one on that reads a net that differs was marked, each is again
pub record StayNoted {W : Type 0} (lanes : ℕ) (bit : W → ℕ → Bool) (o : Ordered) (old new : NetDifferences W) : Type 0 where
  pub nets : AreNetsOf lanes bit o new
  pub kept : Grows old.marks new.marks
  pub marked : (from : ℕ) → AreMarked lanes bit o from old.words.items old.marks → AreMarked lanes bit o from new.words.items new.marks

-- of the faults that are in force the nets are named, and the cycles of flips and pulses are in a set; all other nets are left as
-- they are, and forces that are not stale are those of each cycle without a pulse, and change values on nets of two sets alone
pub record AreFaultsNoted {W : Type 0} (lanes : ℕ) (bit : W → ℕ → Bool) (loads : List (List (Option Fault))) (stale : Bool) (cycles : Places) (forces : Forces W) : Type 0 where
  pub bound : cycles.bound ≡ 65536
  pub acts : AreActs loads cycles
  pub named : AreNamed loads (length forces.by_net.items) forces.named
  pub idle : AreIdle lanes bit loads forces.by_net.items
  pub steady : stale ≡ false → AreSteady lanes bit loads forces.by_net.items
  pub changed : stale ≡ false → ChangeOnly lanes bit forces.zeros forces.ones forces.by_net.items
