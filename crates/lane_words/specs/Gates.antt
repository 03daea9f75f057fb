-- Tables in flat arrays, and the bits of one lane. Source: the algebraic normal form of functions of two bits.
use Rattle.std.specs.Prelude.{◌≡◌, ℕ, ◌<◌, ◌==◌, ◌/◌, ◌%◌, false, Bool, List, length, map, slice_index_or, if◌then◌else◌}
use Rattle.circuit.specs.declared.parts.NetId.{NetId}
use Rattle.circuit.specs.declared.parts.Latch.{Latch}
use Rattle.circuit.specs.declared.parts.Driver.TheVariants.{Table as FromTable, Latch as FromLatch}
use Rattle.circuit.specs.Circuit.{Circuit}
use Rattle.circuit.specs.Value.{driven, driver_at, table_gives}
use Rattle.circuit.specs.Sound.{IsNetlist}
use Rattle.circuit.specs.Order.{IsOrder, net_at}
use Rattle.lane_words.specs.declared.gate.Gate.{Gate}
use Rattle.lane_words.specs.declared.gate.Masks.{Masks}
use Rattle.lane_words.specs.Bits.{normal}

-- the bits of one lane
abbrev pub plane : {W : Type 0} → (W → ℕ → Bool) → ℕ → List W → List Bool
plane bit k words = map (λ w. bit w k) words

-- an operation by its number: its lowest four bits are its normal form
abbrev pub op_value : ℕ → Bool → Bool → Bool
op_value op a b = normal (op % 2 == 1) (op / 2 % 2 == 1) (op / 4 % 2 == 1) (op / 8 % 2 == 1) a b

-- these masks do the operation in every lane
pub record IsOp {W : Type 0} (lanes : ℕ) (bit : W → ℕ → Bool) (op : ℕ) (masks : Masks W) : Type 0 where
  pub c0 : (k : ℕ) → k < lanes → bit masks.c0 k ≡ (op % 2 == 1)
  pub c1 : (k : ℕ) → k < lanes → bit masks.c1 k ≡ (op / 2 % 2 == 1)
  pub c2 : (k : ℕ) → k < lanes → bit masks.c2 k ≡ (op / 4 % 2 == 1)
  pub c3 : (k : ℕ) → k < lanes → bit masks.c3 k ≡ (op / 8 % 2 == 1)

-- masks for each operation
pub record AreOps {W : Type 0} (lanes : ℕ) (bit : W → ℕ → Bool) (masks : List (Masks W)) : Type 0 where
  pub count : length masks ≡ 16
  pub each : (op : ℕ) (d : Masks W) → op < 16 → IsOp lanes bit op (slice_index_or masks op d)

-- the gate at a place
abbrev pub gate_at : List Gate → ℕ → Gate
gate_at gates j = slice_index_or gates j (record { to = 0; a = 0; b = 0; op = 0 })

-- what a gate gives, where `read` tells the value of each net
abbrev pub gate_value : Gate → (ℕ → Bool) → Bool
gate_value gate read = op_value gate.op (read gate.a) (read gate.b)

-- the gate's places exist
pub record IsInside (nets : ℕ) (gate : Gate) : Type 0 where
  pub to : gate.to < nets
  pub a : gate.a < nets
  pub b : gate.b < nets

-- the gate does what the table of its net does, where it has the number of an operation
pub record IsGate (c : Circuit) (gate : Gate) : Type 0 where
  pub inside : IsInside (length c.drivers) gate
  pub table : (k : ℕ) × (driver_at c gate.to ≡ FromTable k)
  pub means : gate.op < 16 → (state inputs : List Bool) (read : ℕ → Bool) → gate_value gate read ≡ driven state inputs (table_gives c read) (driver_at c gate.to)

-- all are gates of the circuit
abbrev pub AreGates : Circuit → List Gate → Type 0
AreGates c gates = (j : ℕ) → j < length gates → IsGate c (gate_at gates j)

-- one gate for each table, in the order's sequence
pub record IsProgram (c : Circuit) (order : List NetId) (gates : List Gate) : Type 0 where
  pub sound : IsNetlist c
  pub ordered : IsOrder c order
  pub count : length gates ≡ length order
  pub nets : (j : ℕ) → j < length gates → (gate_at gates j).to ≡ (net_at order j).0
  pub gates_are : AreGates c gates

-- the latch at a place
abbrev pub latch_at : List Latch → ℕ → Latch
latch_at latches j = slice_index_or latches j (record { from = record { 0 = 0 }; to = record { 0 = 0 }; start = false })

-- each is the latch of its place
abbrev pub AreLatches : Circuit → List Latch → Type 0
AreLatches c latches = (j : ℕ) → j < length latches → driver_at c (latch_at latches j).to.0 ≡ FromLatch j

-- a choice by two bits
abbrev pub pick : Bool → Bool → Bool → Bool → Bool → Bool → Bool
pick low a b both p q = if p then (if q then both else a) else (if q then b else low)
