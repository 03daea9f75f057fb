-- Simulations of one circuit that stand between two cycles, beside the golden run, which is the run without faults: of each latch
-- and each net they hold only whether it differs. Source: concurrent and differential fault simulation.
use Rattle.std.specs.Prelude.{◌≡◌, ℕ, ◌+◌, ◌<◌, ◌≤◌, ◌++◌, Bool, false, List, [], length, slice_index_or}
use Rattle.circuit.specs.declared.parts.Driver.{Driver}
use Rattle.circuit.specs.declared.parts.Driver.TheVariants.{Input, Table as FromTable, Latch as FromLatch}
use Rattle.circuit.specs.declared.parts.Fault.{Fault}
use Rattle.circuit.specs.Circuit.{Circuit}
use Rattle.circuit.specs.Effects.{affected}
use Rattle.circuit.specs.Trace.{flipped, raw_state, trace}
use Rattle.circuit.specs.Value.{bit_at}
use Rattle.golden_difference.specs.Lanes.{Lanes}
use Rattle.lane_words.specs.Bits.{either}
use Rattle.lane_words.specs.Gates.{plane}
use Rattle.lane_words.specs.Loads.{loaded_faults}
use Rattle.place_set.specs.Places.{Places, has, value_in}

-- what a latch has at the start of cycle t, with these faults, differs from what it has without them
abbrev pub state_differs : Circuit → List Fault → List (List Bool) → ℕ → ℕ → Bool
state_differs c faults vectors t latch = either (bit_at (raw_state c faults vectors t) latch) (bit_at (raw_state c [] vectors t) latch)

-- the value of a net in cycle t, with these faults, differs from its golden value
abbrev pub trace_differs : Circuit → List Fault → List (List Bool) → ℕ → ℕ → Bool
trace_differs c faults vectors t net = either (trace c faults vectors t net) (trace c [] vectors t net)

-- a simulation between two cycles: the number of cycles since the start, of each latch whether it differs, and of each net whether
-- it differs in the last cycle
pub record Stand : Type 0 where
  pub cycle : ℕ
  pub raw : List Bool
  pub nets : ℕ → Bool

-- since the start cycles have gone by with these vectors, one after the other, and with these faults in all of them: each latch differs
-- from the golden run of the same vectors as they have left it
pub record IsBetween (c : Circuit) (faults : List Fault) (vectors : List (List Bool)) (stand : Stand) : Type 0 where
  pub cycle : stand.cycle ≡ length vectors
  pub raw : (latch : ℕ) → latch < length c.latches → bit_at stand.raw latch ≡ state_differs c faults vectors (length vectors) latch

-- the same, and the last of these cycles, if there is one, was simulated: each net differs or not as in that cycle
pub record IsBeside (c : Circuit) (faults : List Fault) (vectors : List (List Bool)) (stand : Stand) : Type 0 where
  pub between : IsBetween c faults vectors stand
  pub values : (t net : ℕ) → t + 1 ≡ length vectors → net < length c.drivers → stand.nets net ≡ trace_differs c faults vectors t net

-- the simulation in one lane
abbrev pub stand_in : {W : Type 0} → (W → ℕ → Bool) → ℕ → Lanes W → Stand
stand_in bit k lanes = record { cycle = lanes.cycle; raw = plane bit k lanes.raw; nets = bit_at (slice_index_or lanes.shown k []) }

-- so in each lane, with its own faults in force alone
abbrev pub AreBetween : {W : Type 0} → ℕ → (W → ℕ → Bool) → List (List Bool) → Lanes W → Type 0
AreBetween count bit vectors lanes = (k : ℕ) → k < count → IsBetween lanes.circuit (loaded_faults lanes.in_force k) vectors (stand_in bit k lanes)

abbrev pub AreBeside : {W : Type 0} → ℕ → (W → ℕ → Bool) → List (List Bool) → Lanes W → Type 0
AreBeside count bit vectors lanes = (k : ℕ) → k < count → IsBeside lanes.circuit (loaded_faults lanes.in_force k) vectors (stand_in bit k lanes)

-- a set has the latches that differ once cycles have gone by with these vectors and with these faults
abbrev pub IsStateOf : Circuit → List Fault → List (List Bool) → Places → Type 0
IsStateOf c faults vectors set = (latch : ℕ) → latch < length c.latches → has set latch ≡ state_differs c faults vectors (length vectors) latch

-- in cycle t the faults change no net and flip no latch
pub record DoNothing (faults : List Fault) (t : ℕ) : Type 0 where
  pub nets : (net : ℕ) (own : Bool) → affected faults t net own ≡ own
  pub latches : (bits : List Bool) → flipped faults t bits ≡ bits

-- a run that begins with these vectors is over after them: whatever follows, in no later cycle of the first `most` does a net differ
abbrev pub IsOver : Circuit → List Fault → List (List Bool) → ℕ → Type 0
IsOver c faults vectors most =
    (more : List (List Bool)) (t net : ℕ) → length vectors ≤ t → t < most → net < length c.drivers → trace_differs c faults (vectors ++ more) t net ≡ false

-- a bit for each net, 64 to a word: its golden value in cycle t
abbrev pub IsGoldenRow : Circuit → List (List Bool) → ℕ → List ℕ → Type 0
IsGoldenRow c vectors t row = (net : ℕ) → net < length c.drivers → value_in row net ≡ trace c [] vectors t net

-- what a net differs in by its latch, where `held` tells what each latch differs in
abbrev pub latched : (ℕ → Bool) → Driver → Bool
latched held (Input k) = false
latched held (FromTable k) = false
latched held (FromLatch l) = held l
