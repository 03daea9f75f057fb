-- What a cycle that is run by a cone begins with, in one lane.
use Rattle.std.proofs.Common.{◌≡◌, ◌≢◌, inl, inr, ℕ, ◌<◌, ◌&&◌, Bool, true, false, List, length, get_or, refl, ap, sym, subst, ◌∙◌}
use Rattle.std.proofs.lemmas.Bool.{cases_Bool}
use Rattle.std.proofs.lemmas.Option.{slice_get_within}
use Rattle.circuit.specs.declared.parts.Driver.{Driver}
use Rattle.circuit.specs.declared.parts.Driver.TheVariants.{Input, Table as FromTable, Latch as FromLatch}
use Rattle.circuit.specs.declared.parts.NetId.{NetId}
use Rattle.circuit.specs.Circuit.{Circuit}
use Rattle.circuit.specs.Sound.{IsNetOf, IsNetlist}
use Rattle.circuit.specs.Value.{bit_at, driver_at}
use Rattle.golden_difference.specs.Beside.{latched}
use Rattle.golden_difference.proofs.Exclusive.{either_none}
use Rattle.lane_words.specs.Bits.{either}
use Rattle.lane_words.specs.declared.force.Force.{Force}
use Rattle.lane_words.specs.Forces.{IsIdleAt, force_value}
use Rattle.lane_words.specs.Gates.{latch_at, plane}
use Rattle.lane_words.proofs.Latches.{latches_driven}
use Rattle.place_set.specs.Places.{has, value_in}
use Rattle.differential_kernel.specs.declared.cone.Cone.{Cone}
use Rattle.differential_kernel.specs.Cone.{IsConeOf, is_source}
use Rattle.differential_kernel.specs.Shown.{valued_in}
use Rattle.differential_kernel.proofs.Latching.{latch_net}
use Rattle.differential_kernel.proofs.Notes.{grows_none}
use Rattle.differential_kernel.proofs.Told.{valued_out, valued_there}

-- a driver that isn't a table
source_of : (d : Driver) → ((i : ℕ) → d ≡ FromTable i → ⊥) → is_source d ≡ true
source_of (Input i) free = refl
source_of (FromTable i) free = absurd (free i refl)
source_of (FromLatch l) free = refl

module _ {W : Type 0} (lanes : ℕ) (bit : W → ℕ → Bool) (k : ℕ) (lt_k : k < lanes) (c : Circuit) (order : List NetId) (sound : IsNetlist c) (cone : Cone)
    (is : IsConeOf (record { circuit = c; order = order }) cone) (row : List ℕ) (raw : List W)
    (quiet : (l : ℕ) → has cone.latches l ≡ false → bit_at (plane bit k raw) l ≡ false) where
  -- what the net of a latch or an input differs in, outside of the cone
  latched_out : (n : ℕ) → n < length c.drivers → has cone.nets n ≡ false → latched (bit_at (plane bit k raw)) (driver_at c n) ≡ false
  latched_out n net none = by_driver (driver_at c n) refl
    where
      by_driver : (d : Driver) → driver_at c n ≡ d → latched (bit_at (plane bit k raw)) (driver_at c n) ≡ false
      by_driver (Input i) e = ap (latched (bit_at (plane bit k raw))) e
      by_driver (FromTable i) e = ap (latched (bit_at (plane bit k raw))) e
      by_driver (FromLatch l) e =
          let at = subst (IsNetOf c n) e (sound.nets n net) in
          ap (latched (bit_at (plane bit k raw))) e
          ∙ quiet l (is.ends.latches l (slice_get_within c.latches l at.0 at.1) ∙ ap (has cone.nets) (latch_net c sound n l net e) ∙ none)

  -- BEFORE THE FORCES each net of the cone that no table drives has its golden value, but for what its latch holds
  pub shown_source : (given values : List W)
      → ((n : ℕ) → n < length c.drivers → has cone.read n ≡ true → bit_at (plane bit k given) n ≡ value_in row n)
      → ((l : ℕ) → l < length c.latches → has cone.latches l ≡ true
      → bit_at (plane bit k values) (latch_at c.latches l).to.0 ≡ either (value_in row (latch_at c.latches l).to.0) (bit_at (plane bit k raw) l))
      → ((n : ℕ) → ((l : ℕ) → l < length c.latches → has cone.latches l ≡ true → n ≢ (latch_at c.latches l).to.0) → bit_at (plane bit k values) n ≡ bit_at (plane bit k given) n)
      → (n : ℕ) → n < length c.drivers → has cone.nets n ≡ true → ((i : ℕ) → driver_at c n ≡ FromTable i → ⊥)
      → bit_at (plane bit k values) n ≡ either (value_in row n) (latched (bit_at (plane bit k raw)) (driver_at c n))
  shown_source given values golden ends others n net there free = by_driver (driver_at c n) refl
    where
      by_driver : (d : Driver) → driver_at c n ≡ d → bit_at (plane bit k values) n ≡ either (value_in row n) (latched (bit_at (plane bit k raw)) (driver_at c n))
      by_driver (Input i) e =
          others n apart ∙ golden n net read ∙ sym (ap (λ d. either (value_in row n) (latched (bit_at (plane bit k raw)) d)) e ∙ either_none (value_in row n))
        where
          apart : (l : ℕ) → l < length c.latches → has cone.latches l ≡ true → n ≢ (latch_at c.latches l).to.0
          apart l lt own same = (let clash : Input i ≡ FromLatch l = sym e ∙ ap (driver_at c) same ∙ latches_driven c sound l lt in cc)

          read : has cone.read n ≡ true
          read = elim (cases_Bool (has cone.read n)) [ inl listed ↦ listed | inr out ↦ absurd ((is.reads.found n net out).inside there i e) ]
      by_driver (FromTable i) e = absurd (free i e)
      by_driver (FromLatch l) e =
          subst (λ m. bit_at (plane bit k values) m ≡ either (value_in row m) (bit_at (plane bit k raw) l)) here
          (ends l within (is.ends.latches l within ∙ ap (has cone.nets) here ∙ there))
          ∙ sym (ap (λ d. either (value_in row n) (latched (bit_at (plane bit k raw)) d)) e)
        where
          within : l < length c.latches
          within = (let at = subst (IsNetOf c n) e (sound.nets n net) in slice_get_within c.latches l at.0 at.1)

          here : (latch_at c.latches l).to.0 ≡ n
          here = latch_net c sound n l net e

  -- THEN each net that no table drives is valued as its force leaves it
  pub begins : (forces : List (Force W)) (values new : List W)
      → ((n : ℕ) → n < length c.drivers → has cone.named n ≡ false → IsIdleAt lanes bit forces n)
      → ((n : ℕ) → n < length c.drivers → has cone.nets n ≡ true → ((i : ℕ) → driver_at c n ≡ FromTable i → ⊥)
      → bit_at (plane bit k values) n ≡ either (value_in row n) (latched (bit_at (plane bit k raw)) (driver_at c n)))
      → ((n : ℕ) (d : Force W) → n < length c.drivers → has cone.source n ≡ true → bit_at (plane bit k new) n ≡ force_value bit k (get_or forces n d) (bit_at (plane bit k values) n))
      → ((n : ℕ) → has cone.source n ≡ false → bit_at (plane bit k new) n ≡ bit_at (plane bit k values) n)
      → (n : ℕ) (d : Force W) → n < length c.drivers → ((i : ℕ) → driver_at c n ≡ FromTable i → ⊥)
      → valued_in bit k row cone.nets new n ≡ force_value bit k (get_or forces n d) (either (value_in row n) (latched (bit_at (plane bit k raw)) (driver_at c n)))
  begins forces values new idle sources forced others n d net free =
      elim (cases_Bool (has cone.nets n)) [
        | inl there ↦ valued_there bit k row cone.nets new n there ∙ inside there
        | inr none ↦
            valued_out bit k row cone.nets new n none
            ∙ sym (ap (either (value_in row n)) (latched_out n net none) ∙ either_none (value_in row n))
            ∙ sym (idle n net (grows_none cone.named cone.nets n is.sources.inside none) k d own lt_k)
      ]
    where
      own : Bool
      own = either (value_in row n) (latched (bit_at (plane bit k raw)) (driver_at c n))

      named_source : has cone.source n ≡ has cone.named n
      named_source = is.sources.each n net ∙ ap (λ b. has cone.named n && b) (source_of (driver_at c n) free) ∙ elim (cases_Bool (has cone.named n)) [
        | inl named ↦ ap (λ b. b && true) named ∙ sym named
        | inr free_of ↦ ap (λ b. b && true) free_of ∙ sym free_of
      ]

      inside : has cone.nets n ≡ true → bit_at (plane bit k new) n ≡ force_value bit k (get_or forces n d) own
      inside there = elim (cases_Bool (has cone.source n)) [
        | inl listed ↦ forced n d net listed ∙ ap (force_value bit k (get_or forces n d)) (sources n net there free)
        | inr out ↦ others n out ∙ sources n net there free ∙ sym (idle n net (sym named_source ∙ out) k d own lt_k)
      ]
