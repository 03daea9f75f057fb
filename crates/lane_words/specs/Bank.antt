-- Many simulations of one circuit as contracts see them, one in each lane.
use Rattle.std.specs.Prelude.{◌≡◌, ℕ, ◌<◌, Bool, List, [], Option}
use Rattle.circuit.specs.declared.parts.NetId.{NetId}
use Rattle.circuit.specs.declared.parts.Fault.{Fault}
use Rattle.circuit.specs.Circuit.{Circuit}
use Rattle.circuit.specs.After.{Moment, IsAfter}
use Rattle.lane_words.specs.Gates.{plane}
use Rattle.lane_words.specs.Loads.{loaded_faults}

-- the circuit and the order of its tables that the lanes were made for, the faults of each lane, the number of cycles
-- since the start, the words of the latches and, in the last cycle, those of the nets
pub record Bank (W : Type 0) : Type 0 where
  pub circuit : Circuit
  pub order : List NetId
  pub loads : List (List (Option Fault))
  pub cycle : ℕ
  pub raw : List W
  pub words : List W

-- the lanes were made for this circuit and this order of its tables
pub record IsBankFor {W : Type 0} (c : Circuit) (nets : List NetId) (bank : Bank W) : Type 0 where
  pub circuit : bank.circuit ≡ c
  pub order : bank.order ≡ nets

-- no lane has a fault
abbrev pub AreUnloaded : {W : Type 0} → Bank W → Type 0
AreUnloaded bank = (k : ℕ) → loaded_faults bank.loads k ≡ []

-- nothing was loaded in between
pub record KeepsBankLoads {W : Type 0} (old new : Bank W) : Type 0 where
  pub circuit : new.circuit ≡ old.circuit
  pub order : new.order ≡ old.order
  pub loads : new.loads ≡ old.loads

-- the simulation in one lane
abbrev pub lane_of : {W : Type 0} → (W → ℕ → Bool) → ℕ → Bank W → Moment
lane_of bit k bank = record { cycle = bank.cycle; raw = plane bit k bank.raw; values = plane bit k bank.words }

-- since the start each lane has run cycles with these vectors, with its own faults alone
abbrev pub AreAfter : {W : Type 0} → ℕ → (W → ℕ → Bool) → List (List Bool) → Bank W → Type 0
AreAfter lanes bit vectors bank = (k : ℕ) → k < lanes → IsAfter bank.circuit (loaded_faults bank.loads k) vectors (lane_of bit k bank)
