-- Nets that no fault names, cycles without a pulse or a flip, and forces that were set in order.
use Rattle.std.proofs.Common.{◌≡◌, inl, inr, ℕ, zero, suc, ◌+◌, ◌<◌, ◌==◌, ◌||◌, ◌&&◌, Bool, true, false, cond, List, [], ◌∷◌, length, set, get_or, refl, ap, sym, ◌∙◌, Option}
use Rattle.std.proofs.lemmas.List.{get_or_default, get_or-set_same, get_or-set_other}
use Rattle.std.proofs.lemmas.Bool.{cases_eq, or_parts}
use Rattle.std.specs.List.{list_any}
use Rattle.circuit.specs.declared.parts.Fault.{Fault}
use Rattle.circuit.specs.declared.parts.Fault.TheVariants.{Stuck, Flip, Pulse}
use Rattle.circuit.specs.Effects.{affected, forced, has_flip, has_pulse, inverted, is_flip_of, is_pulse_on}
use Rattle.circuit.specs.Trace.{flipped_from}
use Rattle.lane_words.specs.Loads.{somes, loaded_faults, is_flip_in, is_on, is_pulse_in, names, some_names, has_pulses}
use Rattle.std.proofs.Math.Bool.{and-false}

pub armed : (b s f : Bool) → (b ≡ false → f ≡ s) → cond b s f ≡ s
armed true s f e = refl
armed false s f e = e refl

-- an item is stored that has the value of the one at its place
pub stored_same : {X : Type 0} (value : X → Bool) (xs : List X) (at n : ℕ) (old new d : X) → at < length xs → value new ≡ value (get_or xs at old)
    → value (get_or (set xs at new) n d) ≡ value (get_or xs n d)
stored_same value xs at n old new d within same =
    elim (cases_eq n at) [
      | inl e ↦ rw e (ap value (get_or-set_same xs at new d within) ∙ same ∙ ap value (get_or_default xs at old d within))
      | inr apart ↦ ap value (get_or-set_other xs at n new d apart)
    ]

-- where no item passes a test, none passes a stricter one
pub none_passes : {X : Type 0} (p q : X → Bool) → ((x : X) → q x ≡ false → p x ≡ false) → (xs : List X) → list_any q xs ≡ false → list_any p xs ≡ false
none_passes p q each [] e = refl
none_passes p q each (x ∷ xs) e =
    ap (λ b. b || list_any p xs) (each x (or_parts (q x) (list_any q xs) e).0) ∙ none_passes p q each xs (or_parts (q x) (list_any q xs) e).1

-- where no lane passes a test, this lane doesn't
pub lane_fails : (q : List (Option Fault) → Bool) → q [] ≡ false → (loads : List (List (Option Fault))) (k : ℕ) → list_any q loads ≡ false → q (get_or loads k []) ≡ false
lane_fails q none [] k e = none
lane_fails q none (faults ∷ loads) zero e = (or_parts (q faults) (list_any q loads) e).0
lane_fails q none (faults ∷ loads) (suc k) e = lane_fails q none loads k (or_parts (q faults) (list_any q loads) e).1

forced_free : (faults : List Fault) (n : ℕ) (own : Bool) → list_any (is_on n) faults ≡ false → forced faults n own ≡ own
forced_free [] n own e = refl
forced_free (Stuck net value ∷ faults) n own e =
    ap (λ b. cond b value (forced faults n own)) (or_parts (net.0 == n) (list_any (is_on n) faults) e).0
    ∙ forced_free faults n own (or_parts (net.0 == n) (list_any (is_on n) faults) e).1
forced_free (Flip latch cycle ∷ faults) n own e = forced_free faults n own e
forced_free (Pulse net cycle ∷ faults) n own e = forced_free faults n own (or_parts (net.0 == n) (list_any (is_on n) faults) e).1

off_pulse : (n t : ℕ) (fault : Fault) → is_on n fault ≡ false → is_pulse_on n t fault ≡ false
off_pulse n t (Stuck net value) e = refl
off_pulse n t (Flip latch cycle) e = refl
off_pulse n t (Pulse net cycle) e = ap (λ b. b && (cycle == t)) e

-- no fault changes a net that none names
pub lane_free : (faults : List Fault) (t n : ℕ) (own : Bool) → list_any (is_on n) faults ≡ false → affected faults t n own ≡ own
lane_free faults t n own e =
    ap (λ b. forced faults n (inverted b own)) (none_passes (is_pulse_on n t) (is_on n) (off_pulse n t) faults e) ∙ forced_free faults n own e

pub lane_unnamed : (loads : List (List (Option Fault))) (k n : ℕ) → some_names loads n ≡ false → names (get_or loads k []) n ≡ false
lane_unnamed loads k n e = lane_fails (λ faults. names faults n) refl loads k e

other_cycle : (n t : ℕ) (fault : Fault) → is_pulse_in t fault ≡ false → is_pulse_on n t fault ≡ false
other_cycle n t (Stuck net value) e = refl
other_cycle n t (Flip latch cycle) e = refl
other_cycle n t (Pulse net cycle) e = ap (λ b. (net.0 == n) && b) e ∙ and-false (net.0 == n)

lane_steady : (loads : List (List (Option Fault))) (k n t : ℕ) → has_pulses loads t ≡ false → has_pulse (loaded_faults loads k) n t ≡ false
lane_steady loads k n t e =
    none_passes (is_pulse_on n t) (is_pulse_in t) (other_cycle n t) (loaded_faults loads k)
    (lane_fails (λ faults. list_any (is_pulse_in t) (somes faults)) refl loads k e)

-- in all cycles without a pulse a net is changed in the same way
pub affected_steady : (loads : List (List (Option Fault))) (k n s t : ℕ) (own : Bool) → has_pulses loads s ≡ false → has_pulses loads t ≡ false
    → affected (loaded_faults loads k) s n own ≡ affected (loaded_faults loads k) t n own
affected_steady loads k n s t own e f =
    ap (λ b. forced (loaded_faults loads k) n (inverted b own)) (lane_steady loads k n s e ∙ sym (lane_steady loads k n t f))

pub flipped_same : (faults : List Fault) (t latch : ℕ) (bits : List Bool) → ((l : ℕ) → has_flip faults l t ≡ false) → flipped_from faults t latch bits ≡ bits
flipped_same faults t latch [] none = refl
flipped_same faults t latch (bit ∷ bits) none =
    ap (λ b. inverted b bit ∷ flipped_from faults t (latch + 1) bits) (none latch) ∙ ap (λ xs. bit ∷ xs) (flipped_same faults t (latch + 1) bits none)

of_latch : (latch t : ℕ) (fault : Fault) → is_flip_in t fault ≡ false → is_flip_of latch t fault ≡ false
of_latch latch t (Stuck net value) e = refl
of_latch latch t (Flip l cycle) e = ap (λ b. (l == latch) && b) e ∙ and-false (l == latch)
of_latch latch t (Pulse net cycle) e = refl

-- where no fault is a flip of this cycle, none flips this latch
pub none_flips : (faults : List Fault) (latch t : ℕ) → list_any (is_flip_in t) faults ≡ false → has_flip faults latch t ≡ false
none_flips faults latch t e = none_passes (is_flip_of latch t) (is_flip_in t) (of_latch latch t) faults e
