-- One cycle more in one lane.
use Rattle.std.proofs.Common.{◌≡◌, ℕ, ◌+◌, ◌<◌, Bool, List, [], ◌∷◌, ◌++◌, length, get_or, refl, ap, ap₂, sym, ◌∙◌}
use Rattle.circuit.specs.declared.parts.Fault.{Fault}
use Rattle.circuit.specs.declared.parts.NetId.{NetId}
use Rattle.circuit.specs.Circuit.{Circuit}
use Rattle.circuit.specs.Sound.{IsNetlist}
use Rattle.circuit.specs.Trace.{cycle_at, flipped, trace}
use Rattle.circuit.specs.Value.{Cycle, bit_at, net_value}
use Rattle.fanout.specs.Readers.{Ordered}
use Rattle.golden_difference.specs.Beside.{AreBeside, IsBeside, IsBetween, IsGoldenRow, Stand, trace_differs}
use Rattle.golden_difference.proofs.Exclusive.{either_back}
use Rattle.golden_difference.proofs.NextCycle.{beside_more, flipped_differs}
use Rattle.golden_difference.specs.Lanes.{Lanes}
use Rattle.lane_words.specs.Bits.{either}
use Rattle.lane_words.specs.Gates.{latch_at}
use Rattle.lane_words.specs.Loads.{loaded_faults}
use Rattle.place_set.specs.Places.{value_in}
use Rattle.differential_kernel.specs.Walk.{IsPair}

abbrev pub ordered : Circuit → List NetId → Ordered
ordered c order = record { circuit = c; order = order }

-- the same circuit in the same order
pub same_ordered : (c m : Circuit) (order nets : List NetId) → c ≡ m → order ≡ nets → ordered c order ≡ ordered m nets
same_ordered c m order nets circuit same = ap₂ ordered circuit same

-- where each net holds what it differs in, in every pair of cycles that begins as the lane stands
pub stepped : (c : Circuit) (faults : List Fault) (vectors : List (List Bool)) (inputs : List Bool) (row : List ℕ) (old new : Stand)
    → IsNetlist c → IsBetween c faults vectors old → length old.raw ≡ length c.latches
    → IsGoldenRow c (vectors ++ inputs ∷ []) (length vectors) row
    → ((x golden : Cycle) → IsPair c row x golden → x.faults ≡ faults → x.number ≡ old.cycle
    → ((l : ℕ) → l < length c.latches → bit_at (flipped faults old.cycle old.raw) l ≡ either (bit_at x.state l) (bit_at golden.state l))
    → (n : ℕ) → n < length c.drivers → new.nets n ≡ either (net_value x n) (net_value golden n))
    → ((l : ℕ) → l < length c.latches → bit_at new.raw l ≡ new.nets (latch_at c.latches l).from.0)
    → new.cycle ≡ old.cycle + 1
    → IsBeside c faults (vectors ++ inputs ∷ []) new
stepped c faults vectors inputs row old new sound between size golden_row each raw cycle =
    beside_more c faults vectors inputs old new sound between values raw cycle
  where
    longer : List (List Bool)
    longer = vectors ++ inputs ∷ []

    pair : IsPair c row (cycle_at c faults longer (length vectors)) (cycle_at c [] longer (length vectors))
    pair = record { circuit = refl; golden_circuit = refl; none = refl; inputs = refl; values = golden_row }

    values : (net : ℕ) → net < length c.drivers → new.nets net ≡ trace_differs c faults longer (length vectors) net
    values net lt =
        each (cycle_at c faults longer (length vectors)) (cycle_at c [] longer (length vectors)) pair refl (sym between.cycle)
        (λ l within. ap (λ t. bit_at (flipped faults t old.raw) l) between.cycle ∙ flipped_differs c faults vectors inputs old.raw l size within between.raw) net lt

-- the value of a net, from its golden one and what it differs in
pub read_value : {W : Type 0} (count : ℕ) (bit : W → ℕ → Bool) (lanes : Lanes W) (vectors : List (List Bool)) (row : List ℕ) (t k n : ℕ)
    → AreBeside count bit vectors lanes → IsGoldenRow lanes.circuit vectors t row → t + 1 ≡ length vectors → k < count → n < length lanes.circuit.drivers
    → either (value_in row n) (bit_at (get_or lanes.shown k []) n) ≡ trace lanes.circuit (loaded_faults lanes.in_force k) vectors t n
read_value count bit lanes vectors row t k n beside golden last lt within =
    ap₂ either (golden n within) ((beside k lt).values t n last within)
    ∙ either_back (trace lanes.circuit [] vectors t n) (trace lanes.circuit (loaded_faults lanes.in_force k) vectors t n)
