-- What a search backwards from nets keeps.
use Rattle.std.specs.Prelude.{◌≡◌, ℕ, ◌+◌, ◌⊎◌, Bool, true, false, List, length, sum_by, Contains}
use Rattle.circuit.specs.declared.parts.NetId.{NetId}
use Rattle.circuit.specs.Circuit.{Circuit}
use Rattle.circuit.specs.Value.{bit_at, driver_at}
use Rattle.reach.specs.Paths.{LeadsToSome, reads_of}
use Rattle.reach.specs.declared.search.Search.{Search}

-- the steps that a net still takes: it is found, and then its driver is looked at
abbrev pub steps_left : Bool → ℕ
steps_left true = 0
steps_left false = 2

abbrev pub work_left : Search → ℕ
work_left s = sum_by steps_left s.marks.items + length s.left.items

-- what is marked stays so
abbrev pub Grows : List Bool → List Bool → Type 0
Grows old new = (n : ℕ) → bit_at old n ≡ true → bit_at new n ≡ true

-- some of these nets were found: those that weren't before are left to be looked at
pub record HasFound (old : Search) (nets : List NetId) (new : Search) : Type 0 where
  pub size : length new.marks.items ≡ length old.marks.items
  pub grows : Grows old.marks.items new.marks.items
  pub keeps : (net : NetId) → Contains old.left.items net → Contains new.left.items net
  pub found : (net : NetId) → bit_at new.marks.items net.0 ≡ true → (bit_at old.marks.items net.0 ≡ true) ⊎ (Contains nets net × Contains new.left.items net)
  pub left : (net : NetId) → Contains new.left.items net → Contains old.left.items net ⊎ (bit_at new.marks.items net.0 ≡ true)

-- each net that is marked leads to some of the goals; what its driver reads is marked, or it is left to be looked at, or is looked at now
pub record IsSearch (c : Circuit) (goals : List NetId) (marks : List Bool) (left busy : List NetId) : Type 0 where
  pub leads : (net : NetId) → bit_at marks net.0 ≡ true → LeadsToSome c net goals
  pub closed : (net read : NetId) → bit_at marks net.0 ≡ true → Contains (reads_of c (driver_at c net.0)) read
      → (bit_at marks read.0 ≡ true) ⊎ (Contains left net ⊎ Contains busy net)
