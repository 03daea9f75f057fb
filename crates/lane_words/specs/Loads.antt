-- The faults of each lane.
use Rattle.std.specs.Prelude.{ℕ, ◌==◌, Bool, false, List, [], ◌∷◌, Option, Some, None, slice_index_or}
use Rattle.std.specs.List.{list_any}
use Rattle.circuit.specs.declared.parts.Fault.{Fault}
use Rattle.circuit.specs.declared.parts.Fault.TheVariants.{Stuck, Flip, Pulse}

-- those that are there, in order
abbrev pub somes : List (Option Fault) → List Fault
somes [] = []
somes (None ∷ faults) = somes faults
somes (Some fault ∷ faults) = fault ∷ somes faults

-- the faults of a lane, in the order given
abbrev pub loaded_faults : List (List (Option Fault)) → ℕ → List Fault
loaded_faults loads k = somes (slice_index_or loads k [])

-- the fault may change what is read of this net
abbrev pub is_on : ℕ → Fault → Bool
is_on net (Stuck n value) = n.0 == net
is_on net (Flip latch cycle) = false
is_on net (Pulse n cycle) = n.0 == net

-- some fault may
abbrev pub names : List (Option Fault) → ℕ → Bool
names faults net = list_any (is_on net) (somes faults)

-- some fault of some lane may
abbrev pub some_names : List (List (Option Fault)) → ℕ → Bool
some_names loads net = list_any (λ faults. names faults net) loads

-- the fault is a pulse of this cycle
abbrev pub is_pulse_in : ℕ → Fault → Bool
is_pulse_in t (Stuck n value) = false
is_pulse_in t (Flip latch cycle) = false
is_pulse_in t (Pulse n cycle) = cycle == t

-- some fault of some lane is
abbrev pub has_pulses : List (List (Option Fault)) → ℕ → Bool
has_pulses loads t = list_any (λ faults. list_any (is_pulse_in t) (somes faults)) loads

-- the fault is a flip of this cycle
abbrev pub is_flip_in : ℕ → Fault → Bool
is_flip_in t (Stuck n value) = false
is_flip_in t (Flip latch cycle) = cycle == t
is_flip_in t (Pulse n cycle) = false
