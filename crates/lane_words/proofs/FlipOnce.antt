-- Latches that are inverted one by one, each once.
use Rattle.std.proofs.Common.{◌≡◌, ◌≢◌, inl, inr, ℕ, zero, suc, ◌+◌, ◌<◌, ◌==◌, ◌||◌, ◌&&◌, Bool, true, false, not, List, [], ◌∷◌, length, set, get_or, refl, ap, sym, ◌∙◌, arith}
use Rattle.std.proofs.lemmas.Bool.{cases_eq, eq-eqb, ne_eqb}
use Rattle.std.proofs.lemmas.List.{map-set, get_or-set_same, get_or-set_other}
use Rattle.circuit.specs.declared.parts.Fault.{Fault}
use Rattle.circuit.specs.Effects.{has_flip, inverted}
use Rattle.circuit.specs.Value.{bit_at}
use Rattle.circuit.specs.Trace.{flipped, flipped_from}
use Rattle.lane_words.specs.Gates.{plane}
use Rattle.lane_words.proofs.Planes.{length_plane}

-- a lane whose bit at a place was inverted
pub turned_own : {W : Type 0} (bit : W → ℕ → Bool) (lane : ℕ) (raw : List W) (at : ℕ) (v : W) (l : ℕ) → at < length raw
    → bit v lane ≡ not (bit_at (plane bit lane raw) at)
    → bit_at (plane bit lane (set raw at v)) l ≡ inverted (at == l) (bit_at (plane bit lane raw) l)
turned_own bit lane raw at v l within v_is =
    let size : length (plane bit lane raw) ≡ length raw = length_plane bit lane raw in
    ap (λ bits. bit_at bits l) (map-set (λ w. bit w lane) raw at v)
    ∙ elim (cases_eq l at) [
      | inl same ↦
          rw (same, eq-eqb at at refl) (get_or-set_same (plane bit lane raw) at (bit v lane) false (omega (arith, size, within)) ∙ v_is)
      | inr other ↦
          get_or-set_other (plane bit lane raw) at l (bit v lane) false other
          ∙ ap (λ b. inverted b (bit_at (plane bit lane raw) l)) (sym (ne_eqb at l (λ e. other (sym e))))
    ]

set_same_bit : (bits : List Bool) (at : ℕ) → set bits at (get_or bits at false) ≡ bits
set_same_bit [] at = refl
set_same_bit (b ∷ bits) zero = refl
set_same_bit (b ∷ bits) (suc at) = ap (λ xs. b ∷ xs) (set_same_bit bits at)

-- and another lane
pub turned_other : {W : Type 0} (bit : W → ℕ → Bool) (k : ℕ) (raw : List W) (at : ℕ) (v : W)
    → bit v k ≡ bit_at (plane bit k raw) at → plane bit k (set raw at v) ≡ plane bit k raw
turned_other bit k raw at v v_is =
    map-set (λ w. bit w k) raw at v ∙ ap (set (plane bit k raw) at) v_is ∙ set_same_bit (plane bit k raw) at

-- a flip of this cycle, where no later fault flips the same latch: its latch is inverted now
pub flip_hit : (latch l c t : ℕ) (rest : List Fault) (b : Bool) → c ≡ t → has_flip rest latch t ≡ false
    → inverted (has_flip rest l t) (inverted (latch == l) b) ≡ inverted ((latch == l && c == t) || has_flip rest l t) b
flip_hit latch l c t rest b now last =
    elim (cases_eq latch l) [
      | inl same ↦ rw (now, eq-eqb t t refl, ← same, eq-eqb latch latch refl, last) refl
      | inr other ↦ rw (ne_eqb latch l other) refl
    ]

-- a flip of another cycle changes nothing
pub flip_miss : (latch l c t : ℕ) (rest : List Fault) (b : Bool) → c ≢ t
    → inverted (has_flip rest l t) b ≡ inverted ((latch == l && c == t) || has_flip rest l t) b
flip_miss latch l c t rest b other = rw (ne_eqb c t other, and_false (latch == l)) refl
  where
    and_false : (a : Bool) → (a && false) ≡ false
    and_false true = refl
    and_false false = refl

-- a flip whose latch a later fault inverts
pub flip_later : (latch l c t : ℕ) (rest : List Fault) (b : Bool) → has_flip rest latch t ≡ true
    → inverted (has_flip rest l t) b ≡ inverted ((latch == l && c == t) || has_flip rest l t) b
flip_later latch l c t rest b later =
    elim (cases_eq latch l) [
      | inl same ↦ rw (← same, later, or_true (latch == latch && c == t)) refl
      | inr other ↦ rw (ne_eqb latch l other) refl
    ]
  where
    or_true : (a : Bool) → (a || true) ≡ true
    or_true true = refl
    or_true false = refl

flipped_from_places : (faults : List Fault) (t from : ℕ) (bits new : List Bool) → length new ≡ length bits
    → ((l : ℕ) → l < length bits → bit_at new l ≡ inverted (has_flip faults (from + l) t) (bit_at bits l)) → new ≡ flipped_from faults t from bits
flipped_from_places faults t from [] [] size each = refl
flipped_from_places faults t from [] (v ∷ new) size each = absurd (omega (arith, size))
flipped_from_places faults t from (b ∷ bits) [] size each = absurd (omega (arith, size))
flipped_from_places faults t from (b ∷ bits) (v ∷ new) size each =
    let here : from + 0 ≡ from = omega arith in
    ap (λ w. w ∷ new) (each 0 (omega arith) ∙ ap (λ l. inverted (has_flip faults l t) b) here)
    ∙ ap (λ xs. inverted (has_flip faults from t) b ∷ xs)
    (flipped_from_places faults t (from + 1) bits new (omega (arith, size))
    (λ l lt. let next : from + suc l ≡ (from + 1) + l = omega arith in
    each (suc l) (omega arith) ∙ ap (λ m. inverted (has_flip faults m t) (bit_at bits l)) next))

-- latches that are inverted each at its place
pub flipped_places : (faults : List Fault) (t : ℕ) (bits new : List Bool) → length new ≡ length bits
    → ((l : ℕ) → l < length bits → bit_at new l ≡ inverted (has_flip faults l t) (bit_at bits l)) → new ≡ flipped faults t bits
flipped_places faults t bits new size each =
    flipped_from_places faults t 0 bits new size (λ l lt. let same : l ≡ 0 + l = omega arith in each l lt ∙ ap (λ m. inverted (has_flip faults m t) (bit_at bits l)) same)
