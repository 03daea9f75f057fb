-- Lanes that are dropped.
use Rattle.std.proofs.Common.{◌≡◌, ℕ, ◌<◌, ◌&&◌, ◌||◌, Bool, true, false, not, List, [], length, get_or, refl, ap, sym, ◌∙◌}
use Rattle.std.proofs.lemmas.List.{get_or-map}
use Rattle.circuit.specs.declared.parts.Fault.{Fault}
use Rattle.circuit.specs.Circuit.{Circuit}
use Rattle.circuit.specs.Value.{bit_at}
use Rattle.golden_difference.specs.Beside.{IsBeside, IsBetween, Stand, state_differs, trace_differs}
use Rattle.golden_difference.proofs.Exclusive.{either_same}
use Rattle.lane_words.specs.Bits.{either}
use Rattle.lane_words.specs.Gates.{plane}
use Rattle.circuit.specs.Trace.{raw_state, trace}

-- a bit that is kept where another isn't set
pub kept_bit : (b out : Bool) → (b && either out true) ≡ (not out && b)
kept_bit true true = refl
kept_bit true false = refl
kept_bit false true = refl
kept_bit false false = refl

pub none_kept : (out : Bool) → (not out && false) ≡ false
none_kept true = refl
none_kept false = refl

pub all_kept : (out b : Bool) → out ≡ false → (not out && b) ≡ b
all_kept false b e = refl
all_kept true b e = absurd (cc)

pub none_out : (out b : Bool) → out ≡ true → (not out && b) ≡ false
none_out true b e = refl
none_out false b e = absurd (cc)

pub or_false : (b : Bool) → (b || false) ≡ b
or_false true = refl
or_false false = refl

-- the bit of a word at a place
pub at_plane : {W : Type 0} (bit : W → ℕ → Bool) (k : ℕ) (words : List W) (n : ℕ) (d : W) → n < length words → bit (get_or words n d) k ≡ bit_at (plane bit k words) n
at_plane bit k words n d lt = sym (get_or-map (λ w. bit w k) words n d false lt)

-- a lane in which no latch differs stands as one without faults
pub between_dropped : (c : Circuit) (faults : List Fault) (vectors : List (List Bool)) (stand : Stand) → faults ≡ [] → stand.cycle ≡ length vectors
    → ((l : ℕ) → bit_at stand.raw l ≡ false) → IsBetween c faults vectors stand
between_dropped c faults vectors stand none cycle raw = record {
  cycle = cycle;
  raw = λ l lt.
      raw l ∙ sym (ap (λ fs. state_differs c fs vectors (length vectors) l) none ∙ either_same (bit_at (raw_state c [] vectors (length vectors)) l));
}

-- so does one in which no net differs either
pub beside_dropped : (c : Circuit) (faults : List Fault) (vectors : List (List Bool)) (stand : Stand) → faults ≡ [] → stand.cycle ≡ length vectors
    → ((l : ℕ) → bit_at stand.raw l ≡ false) → ((n : ℕ) → n < length c.drivers → stand.nets n ≡ false) → IsBeside c faults vectors stand
beside_dropped c faults vectors stand none cycle raw values = record {
  between = between_dropped c faults vectors stand none cycle raw;
  values = λ t n last lt. values n lt ∙ sym (ap (λ fs. trace_differs c fs vectors t n) none ∙ either_same (trace c [] vectors t n));
}

-- a lane that isn't dropped stands as it did
pub between_kept : (c : Circuit) (faults before : List Fault) (vectors : List (List Bool)) (old new : Stand) → faults ≡ before → new.cycle ≡ old.cycle
    → ((l : ℕ) → bit_at new.raw l ≡ bit_at old.raw l) → IsBetween c before vectors old → IsBetween c faults vectors new
between_kept c faults before vectors old new same cycle raw between = record {
  cycle = cycle ∙ between.cycle;
  raw = λ l lt. raw l ∙ between.raw l lt ∙ ap (λ fs. state_differs c fs vectors (length vectors) l) (sym same);
}

pub beside_kept : (c : Circuit) (faults before : List Fault) (vectors : List (List Bool)) (old new : Stand) → faults ≡ before → new.cycle ≡ old.cycle
    → ((l : ℕ) → bit_at new.raw l ≡ bit_at old.raw l) → ((n : ℕ) → n < length c.drivers → new.nets n ≡ old.nets n)
    → IsBeside c before vectors old → IsBeside c faults vectors new
beside_kept c faults before vectors old new same cycle raw values beside = record {
  between = between_kept c faults before vectors old new same cycle raw beside.between;
  values = λ t n last lt. values n lt ∙ beside.values t n last lt ∙ ap (λ fs. trace_differs c fs vectors t n) (sym same);
}
