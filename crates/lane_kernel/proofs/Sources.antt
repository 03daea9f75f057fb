-- Nets that no table drives, in one lane.
use Rattle.std.proofs.Common.{◌≡◌, inl, inr, ℕ, ◌+◌, ◌<◌, Bool, false, List, [], ◌∷◌, ◌++◌, length, take, map, set, get_or, refl, ap, sym, ◌∙◌, subst, arith}
use Rattle.std.specs.List.{All}
use Rattle.std.proofs.lemmas.List.{map-set, map_more, take_more, take_more_set, get_or-set_same, get_or-set_other}
use Rattle.std.proofs.lemmas.Option.{get_or_from_slice_get, slice_get-get_or, slice_get_within}
use Rattle.std.proofs.lemmas.Bool.{cases_eq}
use Rattle.circuit.specs.declared.parts.Driver.{Driver}
use Rattle.circuit.specs.declared.parts.Driver.TheVariants.{Input, Table as FromTable, Latch as FromLatch}
use Rattle.circuit.specs.declared.parts.NetId.{NetId}
use Rattle.circuit.specs.declared.parts.Latch.{Latch}
use Rattle.circuit.specs.Circuit.{Circuit}
use Rattle.circuit.specs.Value.{Cycle, bit_at, driver_at, shown}
use Rattle.circuit.specs.Sound.{IsNet, IsNetlist, IsNetOf}
use Rattle.circuit.specs.Order.{net_at}
use Rattle.lane_words.proofs.Planes.{length_plane}
use Rattle.lane_kernel.specs.Ends.{AreInputs, IsRight}
use Rattle.lane_words.specs.Gates.{AreLatches, latch_at, plane}

-- one step of a loop that copies
pub copied_more : {W X : Type 0} (bit : W → ℕ → Bool) (k : ℕ) (words : List W) (f : X → Bool) (xs : List X) (d : X) (i : ℕ) (v : W)
    → i < length words → i < length xs → bit v k ≡ f (get_or xs i d)
    → take i (plane bit k words) ≡ map f (take i xs)
    → take (i + 1) (plane bit k (set words i v)) ≡ map f (take (i + 1) xs)
copied_more bit k words f xs d i v within lt v_is before =
    let size : length (plane bit k words) ≡ length words = length_plane bit k words in
    ap (take (i + 1)) (map-set (λ w. bit w k) words i v)
    ∙ take_more_set (plane bit k words) i (bit v k) (omega (arith, size, within))
    ∙ ap (λ ys. ys ++ bit v k ∷ []) before
    ∙ ap (λ b. map f (take i xs) ++ b ∷ []) v_is
    ∙ sym (map_more f xs i d lt)

-- a net whose right value is stored is right
pub right_set : {W : Type 0} (bit : W → ℕ → Bool) (k : ℕ) (x : Cycle) (words : List W) (n : ℕ) (v : W)
    → n < length words → bit v k ≡ shown x (λ j. false) n
    → IsRight x (plane bit k (set words n v)) n
right_set bit k x words n v within v_is =
    let size : length (plane bit k words) ≡ length words = length_plane bit k words in
    ap (λ bits. bit_at bits n) (map-set (λ w. bit w k) words n v)
    ∙ get_or-set_same (plane bit k words) n (bit v k) false (omega (arith, size, within)) ∙ v_is

-- and each other net that was right is still
pub right_keeps : {W : Type 0} (bit : W → ℕ → Bool) (k : ℕ) (x : Cycle) (words : List W) (n : ℕ) (v : W) (m : ℕ)
    → n < length words → bit v k ≡ shown x (λ j. false) n
    → IsRight x (plane bit k words) m → IsRight x (plane bit k (set words n v)) m
right_keeps bit k x words n v m within v_is before =
    elim (cases_eq m n) [
      | inl same ↦ subst (IsRight x (plane bit k (set words n v))) (sym same) (right_set bit k x words n v within v_is)
      | inr other ↦
          ap (λ bits. bit_at bits m) (map-set (λ w. bit w k) words n v)
          ∙ get_or-set_other (plane bit k words) n m (bit v k) false other ∙ before
    ]

-- all nets that no table drives are those of inputs and latches
pub sources_whole : (y : Cycle) (values : List Bool) → IsNetlist y.circuit
    → ((j : ℕ) → j < length y.circuit.inputs → IsRight y values (net_at y.circuit.inputs j).0)
    → ((j : ℕ) → j < length y.circuit.latches → IsRight y values (latch_at y.circuit.latches j).to.0)
    → (m : NetId) → IsNet y.circuit m → ((k : ℕ) → driver_at y.circuit m.0 ≡ FromTable k → ⊥) → IsRight y values m.0
sources_whole y values sound inputs latches m net none = by_driver (driver_at y.circuit m.0) refl (sound.nets m.0 net)
  where
    by_driver : (d : Driver) → driver_at y.circuit m.0 ≡ d → IsNetOf y.circuit m.0 d → IsRight y values m.0
    by_driver (Input k) e is =
        let at : net_at y.circuit.inputs k ≡ record { 0 = m.0 } = get_or_from_slice_get y.circuit.inputs k (record { 0 = m.0 }) (record { 0 = 0 }) is in
        subst (λ (n : NetId). IsRight y values n.0) at (inputs k (slice_get_within y.circuit.inputs k (record { 0 = m.0 }) is))
    by_driver (FromTable k) e is = absurd (none k e)
    by_driver (FromLatch k) e is =
        let at : latch_at y.circuit.latches k ≡ is.0 =
        get_or_from_slice_get y.circuit.latches k is.0 (record { from = record { 0 = 0 }; to = record { 0 = 0 }; start = false }) is.1 in
        subst (IsRight y values) (ap (λ (latch : Latch). latch.to.0) at ∙ is.2) (latches k (slice_get_within y.circuit.latches k is.0 is.1))

pub inputs_driven : (c : Circuit) → IsNetlist c → AreInputs c c.inputs
inputs_driven c sound j lt =
    get_or_from_slice_get c.drivers (net_at c.inputs j).0 (Input j) (Input 0)
    (sound.inputs j (net_at c.inputs j) (slice_get-get_or c.inputs j (record { 0 = 0 }) lt))

pub inputs_inside : (c : Circuit) → IsNetlist c → All (λ (net : NetId). net.0 < length c.drivers) c.inputs
inputs_inside c sound = λ i d lt.
    slice_get_within c.drivers (get_or c.inputs i d).0 (Input i) (sound.inputs i (get_or c.inputs i d) (slice_get-get_or c.inputs i d lt))

-- one step of a loop that stores given bits
pub stored_more : {W : Type 0} (bit : W → ℕ → Bool) (k : ℕ) (words : List W) (bits : List Bool) (i : ℕ) (v : W)
    → i < length words → i < length bits → bit v k ≡ bit_at bits i
    → take i (plane bit k words) ≡ take i bits
    → take (i + 1) (plane bit k (set words i v)) ≡ take (i + 1) bits
stored_more bit k words bits i v within lt v_is before =
    let size : length (plane bit k words) ≡ length words = length_plane bit k words in
    ap (take (i + 1)) (map-set (λ w. bit w k) words i v)
    ∙ take_more_set (plane bit k words) i (bit v k) (omega (arith, size, within))
    ∙ ap (λ ys. ys ++ bit v k ∷ []) before
    ∙ ap (λ b. take i bits ++ b ∷ []) v_is
    ∙ sym (take_more bits i false lt)
