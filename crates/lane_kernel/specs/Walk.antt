-- A walk over the gates that pauses where a fault may change a net, or a table is wide.
use Rattle.std.specs.Prelude.{◌≡◌, ℕ, ◌<◌, ◌≤◌, Bool, List, length, slice_index_or}
use Rattle.circuit.specs.Effects.{affected}
use Rattle.circuit.specs.Value.{Cycle}
use Rattle.lane_words.specs.declared.gate.Gate.{Gate}
use Rattle.lane_words.specs.Gates.{IsInside, gate_at}

-- the places of all gates exist
abbrev pub AreInside : ℕ → List Gate → Type 0
AreInside nets gates = (j : ℕ) → j < length gates → IsInside nets (gate_at gates j)

-- no fault changes what is read of these nets
abbrev pub IsQuiet : List Gate → Cycle → ℕ → ℕ → Type 0
IsQuiet gates x from to = (j : ℕ) (own : Bool) → from ≤ j → j < to → affected x.faults x.number (gate_at gates j).to own ≡ own

-- a walk pauses at each net that a fault of this lane changes in this cycle
abbrev pub IsPaused : List Gate → List ℕ → Cycle → Type 0
IsPaused gates next x = (from : ℕ) → from < length gates → IsQuiet gates x from (slice_index_or next from 0)

-- the next pause at or behind each place; the end is one too
pub record IsNextPause (n : ℕ) (next : List ℕ) : Type 0 where
  pub count : length next ≡ n
  pub least : (from : ℕ) → from < n → from ≤ slice_index_or next from 0
  pub most : (from : ℕ) → from < n → slice_index_or next from 0 ≤ n

-- each gate between two places has the number of an operation
abbrev pub IsNarrowRun : List Gate → ℕ → ℕ → Type 0
IsNarrowRun gates from to = (j : ℕ) → from ≤ j → j < to → (gate_at gates j).op < 16

-- a walk pauses at each gate that has not
abbrev pub AreNarrowRuns : List Gate → List ℕ → Type 0
AreNarrowRuns gates next = (from : ℕ) → from < length gates → IsNarrowRun gates from (slice_index_or next from 0)
