-- The nets e, y and q: y is e where the latch q holds 0, and the inverse of e where it holds 1; the latch takes y, and starts with 0.
use Rattle.std.specs.Prelude.{ℕ, true, false, List, [], ◌∷◌, codes}
use Rattle.circuit.specs.Circuit.{Circuit}
use Rattle.circuit.specs.declared.parts.Driver.TheVariants.{Input, Table as FromTable, Latch as FromLatch}
use Rattle.circuit.specs.declared.parts.Lit.{Lit}
use Rattle.circuit.specs.declared.parts.Lit.TheVariants.{Zero, One}
use Rattle.circuit.specs.declared.parts.NetId.{NetId}

-- the net of a number
abbrev net : ℕ → NetId
net n = record { 0 = n }

abbrev pub unequal : List (List Lit)
unequal = (One ∷ Zero ∷ []) ∷ (Zero ∷ One ∷ []) ∷ []

abbrev pub toggle : Circuit
toggle = record {
  names = codes "e" ∷ codes "y" ∷ codes "q" ∷ [];
  drivers = Input 0 ∷ FromTable 0 ∷ FromLatch 0 ∷ [];
  tables = record { ins = net 0 ∷ net 2 ∷ []; rows = unequal; on = true } ∷ [];
  latches = record { from = net 1; to = net 2; start = false } ∷ [];
  inputs = net 0 ∷ [];
  outputs = net 1 ∷ net 2 ∷ [];
}
