-- The largest sets that the rules leave as they are. There is one, and each sequence of rules ends in it, whatever its order.
use Rattle.std.specs.Prelude.{◌≡◌, ◌<◌, ◌≤◌, ℕ, Bool, true, false, length, All, Some}
use Rattle.std.specs.List.{slice_get}
use Rattle.circuit.specs.declared.parts.Latch.{Latch}
use Rattle.circuit.specs.Value.{table_at}
use Rattle.alarm_points.specs.PointsFile.{observed}
use Rattle.coverage_claim.specs.Stretch.{Stretch}
use Rattle.coverage_claim.specs.Claim.{Claim, lead_in, leaves, unequal, window_of}
use Rattle.coverage_claim.specs.Rules.{MayGo, Sets, by_table, only, other_than}

-- each pair of the first sets is one of the second
abbrev pub AreAmong : Stretch → Sets → Sets → Type 0
AreAmong s q r = (frame net : ℕ) (a b : Bool) → frame ≤ s.last → q frame net a b ≡ true → r frame net a b ≡ true

-- no rule takes a pair away
abbrev pub AreSupported : Stretch → Sets → Type 0
AreSupported s q = (frame net : ℕ) (a b : Bool) → frame ≤ s.last → q frame net a b ≡ true → ¬ (MayGo s q frame net a b)

-- THE LARGEST SETS among some that the rules leave as they are
pub record AreLargest (s : Stretch) (bounds q : Sets) : Type 0 where
  pub among : AreAmong s q bounds
  pub supported : AreSupported s q
  pub largest : (r : Sets) → AreAmong s r bounds → AreSupported s r → AreAmong s r q

-- what some sequence of these rules leaves of some sets
pub data AreLeft (s : Stretch) (bounds : Sets) : Sets → Type 0 where
  whole : AreLeft s bounds bounds
  gone : (q : Sets) (frame net : ℕ) (a b : Bool) → MayGo s q frame net a b → AreLeft s bounds q → AreLeft s bounds (only q frame net (other_than a b))

-- ---- proved simply: what a program that knows the rules has to find

-- the most inputs of a table that the rules have to look into
abbrev pub most_inputs : ℕ
most_inputs = 6

-- the pair may go by a table that reads more
abbrev pub IsByWide : (s : Stretch) (q : Sets) (frame net : ℕ) (a b : Bool) → MayGo s q frame net a b → Type 0
IsByWide s q frame net a b (by_table k own le is driver none) = most_inputs < length (table_at s.circuit.tables k).ins
IsByWide s q frame net a b _ = ⊥

-- no rule takes a pair away, but maybe such a table
abbrev pub AreSettled : Stretch → Sets → Type 0
AreSettled s q = (frame net : ℕ) (a b : Bool) → frame ≤ s.last → q frame net a b ≡ true → (may : MayGo s q frame net a b) → IsByWide s q frame net a b may

-- no sets that the rules leave as they are have this pair
abbrev pub IsGone : Stretch → ℕ → ℕ → Bool → Bool → Type 0
IsGone s frame net a b = (r : Sets) → AreSettled s r → r frame net a b ≡ false

-- none have it as the only one of their net and frame
abbrev pub IsRefuted : Stretch → ℕ → ℕ → Bool → Bool → Type 0
IsRefuted s frame net a b = (r : Sets) → AreSettled s r → ((x y : Bool) → r frame net x y ≡ true → (x ≡ a) × (y ≡ b)) → r frame net a b ≡ false

-- THE CLAIM IS PROVED SIMPLY: each pair that would break it is refuted, one at a time and without a case split
pub record IsProvedSimply (claim : Claim) : Type 0 where
  pub same : All (λ net. (a b : Bool) → unequal a b ≡ true → IsRefuted (window_of claim) 0 net.0 a b) (observed claim.points)
  pub again : (l : ℕ) (latch : Latch) → slice_get claim.circuit.latches l ≡ Some latch → (a b : Bool) → leaves claim latch a b ≡ true
      → IsRefuted (window_of claim) 0 latch.from.0 a b
  pub begins : (l : ℕ) (latch : Latch) → slice_get claim.circuit.latches l ≡ Some latch → (a b : Bool) → claim.apart latch a b ≡ false
      → IsGone (lead_in claim) claim.from latch.to.0 a b
