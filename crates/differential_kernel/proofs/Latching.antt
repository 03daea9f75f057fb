-- Latches whose nets differ in what they held, one after the other.
use Rattle.std.proofs.Common.{◌≡◌, ◌≢◌, inl, inr, ℕ, ◌+◌, ◌<◌, ◌≤◌, ◌&&◌, ltb, Bool, false, length, refl, ap, sym, subst, ◌∙◌, arith}
use Rattle.std.proofs.lemmas.Bool.{cases_lt, le-ltb, lt-ltb}
use Rattle.std.proofs.lemmas.Option.{get_or_from_slice_get}
use Rattle.circuit.specs.declared.parts.Driver.{Driver}
use Rattle.circuit.specs.declared.parts.Driver.TheVariants.{Input, Table as FromTable, Latch as FromLatch}
use Rattle.circuit.specs.declared.parts.Latch.{Latch}
use Rattle.circuit.specs.Circuit.{Circuit}
use Rattle.circuit.specs.Sound.{IsNetOf, IsNetlist}
use Rattle.circuit.specs.Value.{driver_at}
use Rattle.golden_difference.specs.Beside.{latched}
use Rattle.lane_words.specs.Gates.{latch_at}
use Rattle.lane_words.proofs.Latches.{latches_driven}

-- what latches differ in, of those below a place
abbrev pub held_below : ℕ → (ℕ → Bool) → ℕ → Bool
held_below from held i = ltb i from && held i

below : (from : ℕ) (held : ℕ → Bool) (i : ℕ) → i < from → held_below from held i ≡ held i
below from held i lt = ap (λ b. b && held i) (lt-ltb i from lt)

behind : (from : ℕ) (held : ℕ → Bool) (i : ℕ) → from ≤ i → held_below from held i ≡ false
behind from held i le = ap (λ b. b && held i) (le-ltb i from le)

-- before the first latch no net differs
pub latched_none : (held : ℕ → Bool) (d : Driver) → latched (held_below 0 held) d ≡ false
latched_none held (Input k) = refl
latched_none held (FromTable k) = refl
latched_none held (FromLatch l) = behind 0 held l (omega arith)

-- no other latch differs
pub latched_all : (from : ℕ) (held : ℕ → Bool) (d : Driver) → ((i : ℕ) → from ≤ i → held i ≡ false) → latched (held_below from held) d ≡ latched held d
latched_all from held (Input k) none = refl
latched_all from held (FromTable k) none = refl
latched_all from held (FromLatch l) none =
    elim (cases_lt l from) [ inl less ↦ below from held l less | inr most ↦ behind from held l most ∙ sym (none l most) ]

module _ (c : Circuit) (sound : IsNetlist c) where
  pub latch_net : (n q : ℕ) → n < length c.drivers → driver_at c n ≡ FromLatch q → (latch_at c.latches q).to.0 ≡ n
  latch_net n q lt e =
      let is = subst (IsNetOf c n) e (sound.nets n lt) in
      ap (λ (latch : Latch). latch.to.0) (get_or_from_slice_get c.latches q is.0 (record { from = record { 0 = 0 }; to = record { 0 = 0 }; start = false }) is.1) ∙ is.2

  -- the nets of other latches differ as before
  pub latched_more : (held : ℕ → Bool) (from q : ℕ) → from ≤ q → ((i : ℕ) → from ≤ i → i < q → held i ≡ false)
      → (n : ℕ) → n < length c.drivers → n ≢ (latch_at c.latches q).to.0
      → latched (held_below from held) (driver_at c n) ≡ latched (held_below (q + 1) held) (driver_at c n)
  latched_more held from q le none n lt other = by_driver (driver_at c n) refl
    where
      by_driver : (d : Driver) → driver_at c n ≡ d → latched (held_below from held) (driver_at c n) ≡ latched (held_below (q + 1) held) (driver_at c n)
      by_driver (Input k) e = ap (latched (held_below from held)) e ∙ sym (ap (latched (held_below (q + 1) held)) e)
      by_driver (FromTable k) e = ap (latched (held_below from held)) e ∙ sym (ap (latched (held_below (q + 1) held)) e)
      by_driver (FromLatch l) e =
          ap (latched (held_below from held)) e ∙ same ∙ sym (ap (latched (held_below (q + 1) held)) e)
        where
          apart : l ≢ q
          apart here = other (sym (ap (λ i. (latch_at c.latches i).to.0) (sym here) ∙ latch_net n l lt e))

          same : held_below from held l ≡ held_below (q + 1) held l
          same =
              elim (cases_lt l from) [
                | inl less ↦ below from held l less ∙ sym (below (q + 1) held l (omega arith))
                | inr most ↦ behind from held l most ∙ elim (cases_lt l q) [
                  | inl between ↦ sym (below (q + 1) held l (omega arith) ∙ none l most between)
                  | inr past ↦ sym (behind (q + 1) held l (omega (arith, past, apart)))
                ]
              ]

  -- the net of the next latch differs in what it held
  pub latched_here : (held : ℕ → Bool) (q : ℕ) → driver_at c (latch_at c.latches q).to.0 ≡ FromLatch q
      → latched (held_below (q + 1) held) (driver_at c (latch_at c.latches q).to.0) ≡ held q
  latched_here held q e = ap (latched (held_below (q + 1) held)) e ∙ below (q + 1) held q (omega arith)

  -- two latches have two nets
  pub latch_apart : (i j : ℕ) → i < length c.latches → j < length c.latches → i ≢ j → (latch_at c.latches i).to.0 ≢ (latch_at c.latches j).to.0
  latch_apart i j lt_i lt_j other same =
      let e : FromLatch i ≡ FromLatch j = sym (latches_driven c sound i lt_i) ∙ ap (driver_at c) same ∙ latches_driven c sound j lt_j in
      let here : i ≡ j = cc in
      other here
