-- Private steps of a search, which public contracts don't cite.
use Rattle.std.specs.Prelude.{◌≡◌, ◌<◌, ℕ, Bool, true}
use Rattle.coverage_claim.specs.Rules.{Sets}
use Rattle.coverage_claim.specs.Stretch.{Pairs}

-- of so many nets only the pairs that pass are left in a frame, and nothing else has gone
pub record AreCut (frame : ℕ) (net_of : ℕ → ℕ) (passes : ℕ → Pairs) (count : ℕ) (q left : Sets) : Type 0 where
  pub among : (i n : ℕ) (a b : Bool) → left i n a b ≡ true → q i n a b ≡ true
  pub done : (j : ℕ) → j < count → (a b : Bool) → left frame (net_of j) a b ≡ true → passes j a b ≡ true
  pub kept : (i n : ℕ) (a b : Bool) → q i n a b ≡ true → ((j : ℕ) → j < count → i ≡ frame → net_of j ≡ n → passes j a b ≡ true) → left i n a b ≡ true
