-- What faults do to nets, lane by lane.
use Rattle.std.specs.Prelude.{◌≡◌, ℕ, ◌<◌, ◌&&◌, false, Bool, List, [], length, Option, slice_index_or}
use Rattle.circuit.specs.declared.parts.Fault.{Fault}
use Rattle.circuit.specs.Effects.{affected}
use Rattle.circuit.specs.Value.{Cycle}
use Rattle.lane_words.specs.declared.force.Force.{Force}
use Rattle.lane_words.specs.Bits.{either}
use Rattle.lane_words.specs.Loads.{loaded_faults, has_pulses, names}

-- what a net's own bit becomes in a lane
abbrev pub force_value : {W : Type 0} → (W → ℕ → Bool) → ℕ → Force W → Bool → Bool
force_value bit k force own = either (bit force.base k) (bit force.slope k && own)

-- in each lane the force leaves the net as it is
abbrev pub IsIdleAt : {W : Type 0} → ℕ → (W → ℕ → Bool) → List (Force W) → ℕ → Type 0
IsIdleAt {W} lanes bit forces n = (k : ℕ) (d : Force W) (own : Bool) → k < lanes → force_value bit k (slice_index_or forces n d) own ≡ own

-- the forces leave all nets as they are
abbrev pub AreAllIdle : {W : Type 0} → ℕ → (W → ℕ → Bool) → List (Force W) → Type 0
AreAllIdle lanes bit forces = (n : ℕ) → n < length forces → IsIdleAt lanes bit forces n

-- in each lane the forces leave each net as it is that no fault of this lane names
abbrev pub AreIdle : {W : Type 0} → ℕ → (W → ℕ → Bool) → List (List (Option Fault)) → List (Force W) → Type 0
AreIdle {W} lanes bit loads forces =
    (k n : ℕ) (d : Force W) (own : Bool) → k < lanes → n < length forces → names (slice_index_or loads k []) n ≡ false → force_value bit k (slice_index_or forces n d) own ≡ own

-- the forces are those of each cycle that has no pulse
abbrev pub AreSteady : {W : Type 0} → ℕ → (W → ℕ → Bool) → List (List (Option Fault)) → List (Force W) → Type 0
AreSteady {W} lanes bit loads forces =
    (k n t : ℕ) (d : Force W) (own : Bool) → k < lanes → n < length forces → has_pulses loads t ≡ false
    → force_value bit k (slice_index_or forces n d) own ≡ affected (loaded_faults loads k) t n own

-- in each lane the forces do to each net what the faults of this lane do in this cycle
abbrev pub AreArmed : {W : Type 0} → ℕ → (W → ℕ → Bool) → List (List (Option Fault)) → ℕ → List (Force W) → Type 0
AreArmed {W} lanes bit loads t forces =
    (k n : ℕ) (d : Force W) (own : Bool) → k < lanes → n < length forces → force_value bit k (slice_index_or forces n d) own ≡ affected (loaded_faults loads k) t n own

-- what the forces do to each net is what the faults of this lane do in this cycle
abbrev pub AreForces : {W : Type 0} → (W → ℕ → Bool) → ℕ → List (Force W) → Cycle → Type 0
AreForces {W} bit k forces x =
    (net : ℕ) (d : Force W) (own : Bool) → net < length forces → force_value bit k (slice_index_or forces net d) own ≡ affected x.faults x.number net own
