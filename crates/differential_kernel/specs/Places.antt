-- Places of which something is true, in a list.
use Rattle.std.specs.Prelude.{◌≡◌, ℕ, ◌<◌, ◌≤◌, Bool, true, List, nat_lt, slice_index, if◌then◌else◌}

-- the first numbers of a list, so many, are those below a bound of which something is true, ascending
pub record AreThose (is : ℕ → Bool) (bound : ℕ) (list : List ℕ) (count : ℕ) : Type 0 where
  pub few : count ≤ bound
  pub below : (i : ℕ) → i < count → slice_index list i < bound
  pub each : (i : ℕ) → i < count → is (slice_index list i) ≡ true
  pub ascending : (i j : ℕ) → i < j → j < count → slice_index list i < slice_index list j
  pub whole : (p : ℕ) → p < bound → is p ≡ true → (i : ℕ) × (i < count) × (slice_index list i ≡ p)

-- the number at a place of such a list, or behind the last one the bound
abbrev pub next_in : List ℕ → ℕ → ℕ → ℕ → ℕ
next_in list count bound i = if nat_lt i count then slice_index list i else bound
