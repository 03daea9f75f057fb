-- The nets that faults name, and the cycles in which they act.
use Rattle.std.specs.Prelude.{◌≡◌, ℕ, ◌<◌, ◌==◌, false, true, Bool, List, length, Option, slice_index_or}
use Rattle.std.specs.List.{list_any}
use Rattle.circuit.specs.declared.parts.Fault.{Fault}
use Rattle.circuit.specs.declared.parts.Fault.TheVariants.{Stuck, Flip, Pulse}
use Rattle.circuit.specs.Effects.{is_permanent}
use Rattle.lane_words.specs.declared.force.Force.{Force}
use Rattle.lane_words.specs.Forces.{IsIdleAt, force_value}
use Rattle.lane_words.specs.Loads.{some_names, somes}
use Rattle.place_set.specs.Places.{Places, has}

-- they leave the nets as they are that aren't in a set
abbrev pub AreIdleOff : {W : Type 0} → ℕ → (W → ℕ → Bool) → Places → List (Force W) → Type 0
AreIdleOff lanes bit set forces = (n : ℕ) → n < length forces → has set n ≡ false → IsIdleAt lanes bit forces n

-- they leave this value as it is, on the nets that aren't in a set
abbrev pub LeaveOff : {W : Type 0} → ℕ → (W → ℕ → Bool) → Bool → Places → List (Force W) → Type 0
LeaveOff {W} lanes bit value set forces =
    (k n : ℕ) (d : Force W) → k < lanes → n < length forces → has set n ≡ false → force_value bit k (slice_index_or forces n d) value ≡ value

-- they change a 0 on nets of the one set alone, and a 1 on nets of the other
pub record ChangeOnly {W : Type 0} (lanes : ℕ) (bit : W → ℕ → Bool) (zeros ones : Places) (forces : List (Force W)) : Type 0 where
  pub zeros_left : LeaveOff lanes bit false zeros forces
  pub ones_left : LeaveOff lanes bit true ones forces

-- the set has the nets that faults name, and no others
abbrev pub AreNamed : List (List (Option Fault)) → ℕ → Places → Type 0
AreNamed loads nets set = (n : ℕ) → n < nets → has set n ≡ some_names loads n

-- the fault is a flip or a pulse of this cycle
abbrev pub is_act_in : ℕ → Fault → Bool
is_act_in t (Stuck net value) = false
is_act_in t (Flip latch cycle) = cycle == t
is_act_in t (Pulse net cycle) = cycle == t

-- some fault is
abbrev pub acts : List (Option Fault) → ℕ → Bool
acts faults t = list_any (is_act_in t) (somes faults)

-- some fault of some lane is
abbrev pub has_acts : List (List (Option Fault)) → ℕ → Bool
has_acts loads t = list_any (λ faults. acts faults t) loads

-- some fault of some lane is stuck-at
abbrev pub has_stuck : List (List (Option Fault)) → Bool
has_stuck loads = list_any (λ faults. list_any is_permanent (somes faults)) loads

-- the set has the cycles in which flips or pulses act, and no others
abbrev pub AreActs : List (List (Option Fault)) → Places → Type 0
AreActs loads set = (t : ℕ) → t < set.bound → has set t ≡ has_acts loads t
