-- A simulation beside the golden run goes on by one cycle.
use Rattle.std.proofs.Common.{◌≡◌, ℕ, zero, suc, ◌+◌, ◌<◌, Bool, false, List, [], ◌∷◌, ◌++◌, length, get_or, ap, ap₂, sym, ◌∙◌, add-one, arith}
use Rattle.std.proofs.lemmas.List.{get_or-map, length-map, length_push}
use Rattle.circuit.specs.declared.parts.Fault.{Fault}
use Rattle.circuit.specs.declared.parts.Latch.{Latch}
use Rattle.circuit.specs.Circuit.{Circuit}
use Rattle.circuit.specs.Effects.{has_flip, inverted}
use Rattle.circuit.specs.Sound.{IsNetlist}
use Rattle.circuit.specs.Trace.{cycle_at, first_state, flipped, flipped_from, raw_state, trace}
use Rattle.circuit.specs.Value.{bit_at, net_value}
use Rattle.circuit.proofs.Steps.{raw_state-suc, raw_state-zero}
use Rattle.lane_words.specs.Bits.{either}
use Rattle.golden_difference.specs.Beside.{IsBeside, IsBetween, Stand, state_differs, trace_differs}
use Rattle.golden_difference.proofs.Exclusive.{either_inverted, either_same}
use Rattle.circuit.proofs.Cycles.{raw_state-append}

-- the latch at a place
abbrev latch_at : List Latch → ℕ → Latch
latch_at latches l = get_or latches l (record { from = record { 0 = 0 }; to = record { 0 = 0 }; start = false })

-- before the first cycle no latch differs
pub beside_none : (c : Circuit) (faults : List Fault) (stand : Stand) → stand.cycle ≡ 0 → ((l : ℕ) → l < length c.latches → bit_at stand.raw l ≡ false)
    → IsBeside c faults [] stand
beside_none c faults stand cycle raw = record {
  between = record {
    cycle = cycle;
    raw = λ l lt.
        raw l lt ∙ sym (ap₂ (λ (a b : List Bool). either (bit_at a l) (bit_at b l)) (raw_state-zero c faults []) (raw_state-zero c [] []) ∙ either_same (bit_at (first_state c) l));
  };
  values = λ t net e lt. absurd (omega arith);
}

-- what a latch takes is the value of the net that it reads
next_at : (c : Circuit) (faults : List Fault) (vectors : List (List Bool)) (t l : ℕ) → l < length c.latches
    → bit_at (raw_state c faults vectors (suc t)) l ≡ trace c faults vectors t (latch_at c.latches l).from.0
next_at c faults vectors t l lt =
    ap (λ (bits : List Bool). bit_at bits l) (raw_state-suc c faults vectors t)
    ∙ get_or-map (λ (latch : Latch). net_value (cycle_at c faults vectors t) latch.from.0) c.latches l (record { from = record { 0 = 0 }; to = record { 0 = 0 }; start = false }) false lt

-- THE NEXT CYCLE: where each net holds what differs in it, and each latch what the net differs in that it reads
pub beside_more : (c : Circuit) (faults : List Fault) (vectors : List (List Bool)) (inputs : List Bool) (old new : Stand)
    → IsNetlist c → IsBetween c faults vectors old
    → ((net : ℕ) → net < length c.drivers → new.nets net ≡ trace_differs c faults (vectors ++ inputs ∷ []) (length vectors) net)
    → ((l : ℕ) → l < length c.latches → bit_at new.raw l ≡ new.nets (latch_at c.latches l).from.0)
    → new.cycle ≡ old.cycle + 1
    → IsBeside c faults (vectors ++ inputs ∷ []) new
beside_more c faults vectors inputs old new sound between values raw cycle = record {
  between = record {
    cycle = cycle ∙ ap (λ n. n + 1) between.cycle ∙ sym size;
    raw = λ l lt.
        let from : (latch_at c.latches l).from.0 < length c.drivers = sound.sources l (record { from = record { 0 = 0 }; to = record { 0 = 0 }; start = false }) lt in
        raw l lt ∙ values (latch_at c.latches l).from.0 from
        ∙ sym (ap₂ either (next_at c faults longer (length vectors) l lt) (next_at c [] longer (length vectors) l lt))
        ∙ ap (λ n. state_differs c faults longer n l) (sym (add-one (length vectors)) ∙ sym size);
  };
  values = λ t net e lt.
      let same : length vectors ≡ t = omega (arith, size, e) in
      values net lt ∙ ap (λ n. trace_differs c faults longer n net) same;
}
  where
    longer : List (List Bool)
    longer = vectors ++ inputs ∷ []

    size : length longer ≡ length vectors + 1
    size = length_push vectors inputs

-- a bit of latches that faults flip
pub at_flipped : (faults : List Fault) (t from : ℕ) (bits : List Bool) (l : ℕ) → l < length bits
    → bit_at (flipped_from faults t from bits) l ≡ inverted (has_flip faults (from + l) t) (bit_at bits l)
at_flipped faults t from [] l lt = absurd (omega arith)
at_flipped faults t from (b ∷ bits) zero lt =
    let same : from ≡ from + 0 = omega arith in
    ap (λ n. inverted (has_flip faults n t) b) same
at_flipped faults t from (b ∷ bits) (suc l) lt =
    let same : (from + 1) + l ≡ from + suc l = omega arith in
    at_flipped faults t (from + 1) bits l (omega arith) ∙ ap (λ n. inverted (has_flip faults n t) (bit_at bits l)) same

-- each latch has a bit
pub state_length : (c : Circuit) (faults : List Fault) (vectors : List (List Bool)) (t : ℕ) → length (raw_state c faults vectors t) ≡ length c.latches
state_length c faults vectors zero = ap (λ (bits : List Bool). length bits) (raw_state-zero c faults vectors) ∙ length-map c.latches (λ (latch : Latch). latch.start)
state_length c faults vectors (suc t) =
    ap (λ (bits : List Bool). length bits) (raw_state-suc c faults vectors t)
    ∙ length-map c.latches (λ (latch : Latch). net_value (cycle_at c faults vectors t) latch.from.0)

-- what latches differ in at the start of the next cycle, after faults have flipped some
pub flipped_differs : (c : Circuit) (faults : List Fault) (vectors : List (List Bool)) (inputs : List Bool) (held : List Bool) (l : ℕ)
    → length held ≡ length c.latches → l < length c.latches
    → ((i : ℕ) → i < length c.latches → bit_at held i ≡ state_differs c faults vectors (length vectors) i)
    → bit_at (flipped faults (length vectors) held) l
    ≡ either (bit_at (cycle_at c faults (vectors ++ inputs ∷ []) (length vectors)).state l) (bit_at (cycle_at c [] (vectors ++ inputs ∷ []) (length vectors)).state l)
flipped_differs c faults vectors inputs held l size lt differs =
    at_flipped faults n 0 held l (omega (arith, size, lt))
    ∙ ap (inverted (has_flip faults (0 + l) n)) (differs l lt)
    ∙ either_inverted (has_flip faults (0 + l) n) (bit_at (raw_state c faults vectors n) l) (bit_at (raw_state c [] vectors n) l)
    ∙ ap₂ either (state_is faults) (state_is [])
  where
    n : ℕ
    n = length vectors

    state_is : (fs : List Fault) → inverted (has_flip fs (0 + l) n) (bit_at (raw_state c fs vectors n) l) ≡ bit_at (cycle_at c fs (vectors ++ inputs ∷ []) n).state l
    state_is fs =
        sym (at_flipped fs n 0 (raw_state c fs vectors n) l (omega (arith, lt, state_length c fs vectors n)))
        ∙ ap (λ raw. bit_at (flipped fs n raw) l) (sym (raw_state-append c fs vectors (inputs ∷ []) n (omega arith)))
