-- The first cycle in which something is seen at a point, of each fault of a draw.
use Rattle.std.specs.Prelude.{◌≡◌, ℕ, ◌+◌, ◌*◌, ◌<◌, Bool, true, List, length, Option, None, is_some, slice_index, slice_index_or}
use Rattle.fm_base.specs.Planes.{bit}
use Rattle.first_cycles.specs.FirstCycles.{first_with}

-- of each fault of a draw the first cycle, where there is one; and of the lanes of a group, 64 to a word, those whose faults are known to have one
pub record FirstCycles : Type 0 where
  pub cycles : List (Option ℕ)
  pub known : List ℕ

-- the first cycle of a fault, where it has been seen
abbrev pub first_in : List (Option ℕ) → ℕ → Option ℕ
first_in cycles i = slice_index_or cycles i None

abbrev pub first_of : FirstCycles → ℕ → Option ℕ
first_of firsts i = first_in firsts.cycles i

-- the fault in a lane of a group, by its number in the draw
abbrev pub fault_in : List ℕ → ℕ → ℕ
fault_in group lane = slice_index group lane

-- no lane of the group has this fault
abbrev pub IsNotIn : List ℕ → ℕ → Type 0
IsNotIn group i = (lane : ℕ) → lane < length group → fault_in group lane ≡ i → ⊥

-- the faults of the marked lanes of a group have been seen
abbrev pub AreKnown : List ℕ → (known : List ℕ) → List (Option ℕ) → Type 0
AreKnown group known cycles =
    (word k : ℕ) → word < 4 → k < 64 → word * 64 + k < length group → bit (slice_index known word) k ≡ true → is_some (first_in cycles (fault_in group (word * 64 + k))) ≡ true

-- ---- a shape of private steps

-- some faults of a group were seen in cycle t, of those that the test tells: nothing but this cycle was put to them, and nothing to others
pub record SeesSome (group : List ℕ) (is_seen : ℕ → Bool) (t : ℕ) (old new : List (Option ℕ)) : Type 0 where
  pub same : (i : ℕ) → first_with (first_in new i) (is_seen i) t ≡ first_with (first_in old i) (is_seen i) t
  pub stays : (i : ℕ) → is_some (first_in old i) ≡ true → is_some (first_in new i) ≡ true
  pub others : (i : ℕ) → IsNotIn group i → first_in new i ≡ first_in old i
