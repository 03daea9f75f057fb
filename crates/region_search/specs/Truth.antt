-- Truth tables, row by row.
use Rattle.std.specs.Prelude.{◌≡◌, ◌<◌, ◌≤◌, ℕ, Bool, List, length, map, take, All, Contains}
use Rattle.circuit.specs.Table.{table_value}
use Rattle.circuit.specs.declared.parts.NetId.{NetId}
use Rattle.circuit.specs.declared.parts.Table.{Table}
use Rattle.pair_sets.specs.Choice.{row_from, truth_gives}
use Rattle.pair_sets.specs.Tables.{IsOnce}

-- the row in which these nets have these values
abbrev pub row_of : (ℕ → Bool) → List NetId → ℕ
row_of values reads = row_from 0 (map (λ net. values net.0) reads)

-- the truth table gives what the table does
abbrev pub IsTruthOf : Table → List NetId → ℕ → Type 0
IsTruthOf table reads truth = (values : ℕ → Bool) → table_value table (map (λ net. values net.0) table.ins) ≡ truth_gives truth (map (λ net. values net.0) reads)

-- THE NETS OF A LIST, each once, where there are at most six; else some of them, and a count that is too high
pub record AreReads (ins : List NetId) (count : ℕ) (nets : List NetId) : Type 0 where
  pub size : length nets ≡ 6
  pub among : All (Contains ins) (take count nets)
  pub once : IsOnce (take count nets)
  pub whole : count ≤ 6 → All (Contains (take count nets)) ins
  pub wide : 6 < count → 6 < length ins
