-- The nets at which a walk pauses for the faults of all lanes.
use Rattle.std.specs.Prelude.{◌≡◌, ◌<◌, ◌≤◌, length, ℕ, Bool, false, not, List, Option, slice_index_or}
use Rattle.std.specs.List.{list_any}
use Rattle.circuit.specs.declared.parts.Fault.{Fault}
use Rattle.circuit.specs.Effects.{is_permanent}
use Rattle.circuit.specs.Value.{bit_at}
use Rattle.lane_words.specs.declared.gate.Gate.{Gate}
use Rattle.lane_words.specs.Gates.{gate_at}
use Rattle.lane_words.specs.Loads.{some_names, somes}

-- no fault names the net of a gate between a place and the next pause
abbrev pub IsUnnamed : List (List (Option Fault)) → List Gate → List ℕ → Type 0
IsUnnamed loads gates next =
    (from j : ℕ) → from < length gates → from ≤ j → j < slice_index_or next from 0 → some_names loads (gate_at gates j).to ≡ false

-- marks stand at the nets that faults name, and at no others
abbrev pub AreFaultMarks : List (List (Option Fault)) → List Bool → Type 0
AreFaultMarks loads marks = (n : ℕ) → n < length marks → bit_at marks n ≡ some_names loads n

-- some fault of some lane is a flip or a pulse
abbrev pub has_transients : List (List (Option Fault)) → Bool
has_transients loads = list_any (λ faults. list_any (λ fault. not (is_permanent fault)) (somes faults)) loads
