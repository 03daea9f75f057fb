-- The nets that no table drives.
use Rattle.std.specs.Prelude.{◌≡◌, ℕ, ◌<◌, false, Bool, List, length}
use Rattle.circuit.specs.declared.parts.NetId.{NetId}
use Rattle.circuit.specs.declared.parts.Driver.TheVariants.{Input}
use Rattle.circuit.specs.Circuit.{Circuit}
use Rattle.circuit.specs.Value.{Cycle, bit_at, driver_at, shown}
use Rattle.circuit.specs.Order.{net_at}

-- the value of a net that no table drives is that of the cycle
abbrev pub IsRight : Cycle → List Bool → ℕ → Type 0
IsRight x values net = bit_at values net ≡ shown x (λ k. false) net

-- each is the net of the input of its place
abbrev pub AreInputs : Circuit → List NetId → Type 0
AreInputs c nets = (j : ℕ) → j < length nets → driver_at c (net_at nets j).0 ≡ Input j
