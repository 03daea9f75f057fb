-- What circuits were made for, and which faults are in them.
use Rattle.std.specs.Prelude.{◌≡◌, ℕ, ◌+◌, ◌*◌, ◌<◌, List, []}
use Rattle.circuit.specs.declared.parts.Fault.{Fault}
use Rattle.circuit.specs.declared.parts.NetId.{NetId}
use Rattle.circuit.specs.Circuit.{Circuit}
use Rattle.lane_words.specs.Bank.{Bank}
use Rattle.lane_words.specs.Loads.{loaded_faults}

-- the netlist, the order of its tables, and the faults in each lane of a word
pub record Loaded : Type 0 where
  pub circuit : Circuit
  pub order : List NetId
  pub faults : ℕ → ℕ → List Fault

-- they were made for this netlist and this order of its tables
pub record IsLoadedFor (c : Circuit) (nets : List NetId) (loaded : Loaded) : Type 0 where
  pub circuit : loaded.circuit ≡ c
  pub order : loaded.order ≡ nets

-- ---- in 256 lanes

-- the lanes' own: lane k of word w is circuit 64w + k
abbrev pub in_lanes : {W : Type 0} → Bank W → Loaded
in_lanes bank = record { circuit = bank.circuit; order = bank.order; faults = λ word k. loaded_faults bank.loads (word * 64 + k) }

-- the lanes of the last of four words have no fault
abbrev pub HasGoldenWord : {W : Type 0} → Bank W → Type 0
HasGoldenWord bank = (k : ℕ) → k < 64 → loaded_faults bank.loads (3 * 64 + k) ≡ []
