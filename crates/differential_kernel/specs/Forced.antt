-- What a net differs in once it is forced, or evaluated and forced.
use Rattle.std.specs.Prelude.{◌≡◌, ◌≢◌, ℕ, ◌<◌, Bool, List, slice_index_or}
use Rattle.circuit.specs.Circuit.{Circuit}
use Rattle.circuit.specs.Value.{bit_at, driven, driver_at, table_gives}
use Rattle.lane_words.specs.Bits.{either}
use Rattle.lane_words.specs.declared.force.Force.{Force}
use Rattle.lane_words.specs.Forces.{force_value}
use Rattle.lane_words.specs.Gates.{plane}
use Rattle.place_set.specs.Places.{value_in}
use Rattle.differential_kernel.specs.Differences.{read_in}
use Rattle.differential_kernel.specs.Walk.{IsGivenAt}

-- in a lane, by the force on it alone
abbrev pub forced_in : {W : Type 0} → (W → ℕ → Bool) → ℕ → List ℕ → List (Force W) → Force W → List W → ℕ → Bool
forced_in bit k row forces d words n = either (force_value bit k (slice_index_or forces n d) (read_in bit k row words n)) (value_in row n)

-- in a lane, by its table and the force on it
abbrev pub evaluated_in : {W : Type 0} → (W → ℕ → Bool) → ℕ → Circuit → List ℕ → List (Force W) → Force W → List Bool → List Bool → List W → ℕ → Bool
evaluated_in bit k c row forces d state inputs words n =
    either (force_value bit k (slice_index_or forces n d) (driven state inputs (table_gives c (read_in bit k row words)) (driver_at c n))) (value_in row n)

-- where the golden value of a net is what its table gives, it differs by its table and its force, and the others as they did
pub record IsSettled {W : Type 0} (lanes : ℕ) (bit : W → ℕ → Bool) (c : Circuit) (row : List ℕ) (forces : List (Force W)) (n : ℕ) (old new : List W) : Type 0 where
  pub value : (k : ℕ) (d : Force W) (state inputs : List Bool) → k < lanes → IsGivenAt c row n → bit_at (plane bit k new) n ≡ evaluated_in bit k c row forces d state inputs old n
  pub others : (k m : ℕ) → m ≢ n → bit_at (plane bit k new) m ≡ bit_at (plane bit k old) m
