-- What holds before the first table of a cycle, in one lane.
use Rattle.std.proofs.Common.{◌≡◌, inl, inr, ℕ, ◌+◌, ◌<◌, Bool, false, List, [], ◌∷◌, length, map, get_or, refl, ap, ap₂, sym, subst, ◌∙◌, arith}
use Rattle.std.specs.List.{Contains}
use Rattle.std.proofs.lemmas.Bool.{cases_lt}
use Rattle.std.proofs.lemmas.List.{get_or_past, length-append, length-map}
use Rattle.circuit.specs.declared.parts.Driver.TheVariants.{Table as FromTable}
use Rattle.circuit.specs.declared.parts.Latch.{Latch}
use Rattle.circuit.specs.declared.parts.NetId.{NetId}
use Rattle.circuit.specs.Circuit.{Circuit}
use Rattle.circuit.specs.Effects.{affected}
use Rattle.circuit.specs.Order.{IsOrder}
use Rattle.circuit.specs.Sound.{IsNetlist}
use Rattle.circuit.specs.Value.{Cycle, bit_at, driven, driver_at, shown}
use Rattle.fanout.specs.Readers.{IsReadAt, Ordered, all_reads, driver_reads}
use Rattle.golden_difference.specs.Beside.{latched}
use Rattle.golden_difference.proofs.Exclusive.{either_back}
use Rattle.golden_difference.proofs.Sources.{source_gives}
use Rattle.golden_difference.proofs.Walked.{Walked, walked_none}
use Rattle.lane_words.specs.Bits.{either}
use Rattle.lane_words.specs.Gates.{plane}
use Rattle.place_set.specs.Places.{value_in}
use Rattle.lane_words.specs.declared.force.Force.{Force}
use Rattle.differential_kernel.specs.Differences.{read_in}
use Rattle.lane_words.specs.Forces.{force_value, AreForces}
use Rattle.differential_kernel.specs.Walk.{IsPair}
use Rattle.differential_kernel.specs.Forced.{forced_in}
use Rattle.differential_kernel.proofs.Walking.{some_force}

-- each reader is the place of a table or of a latch
pub read_within : (o : Ordered) (n place : ℕ) → IsReadAt o n place → place < length o.order + length o.circuit.latches
read_within o n place there =
    elim (cases_lt place (length (all_reads o))) [
      | inl less ↦ omega (arith, less, size)
      | inr most ↦ absurd (nobody (subst (λ (nets : List NetId). Contains nets (record { 0 = n })) (get_or_past (all_reads o) place [] most) there))
    ]
  where
    size : length (all_reads o) ≡ length o.order + length o.circuit.latches
    size =
        length-append (map (λ (net : NetId). driver_reads o.circuit (driver_at o.circuit net.0)) o.order) (map (λ (latch : Latch). latch.from ∷ []) o.circuit.latches)
        ∙ ap₂ (λ a b. a + b) (length-map o.order (λ (net : NetId). driver_reads o.circuit (driver_at o.circuit net.0))) (length-map o.circuit.latches (λ (latch : Latch). latch.from ∷ []))

    nobody : Contains {X = NetId} [] (record { 0 = n }) → ⊥
    nobody (k, lt, at) = omega arith

module _ {W : Type 0} (lanes : ℕ) (bit : W → ℕ → Bool) (k : ℕ) (lt_k : k < lanes) (c : Circuit) (order : List NetId) (sound : IsNetlist c) (ordered : IsOrder c order)
    (row : List ℕ) (forces : List (Force W)) (size : length forces ≡ length c.drivers)
    (x golden : Cycle) (pair : IsPair c row x golden) (are : AreForces bit k forces x) where
  -- BEFORE THE FIRST TABLE the nets that no table drives are read with their values: forced from their golden values, but for what
  -- their latches hold
  pub begun_by : (held read : ℕ → Bool)
      → ((l : ℕ) → l < length c.latches → held l ≡ either (bit_at x.state l) (bit_at golden.state l))
      → ((n : ℕ) (d : Force W) → n < length c.drivers → ((i : ℕ) → driver_at c n ≡ FromTable i → ⊥)
      → read n ≡ force_value bit k (get_or forces n d) (either (value_in row n) (latched held (driver_at c n))))
      → Walked x read [] 0
  begun_by held read holds forced =
      walked_none x read each
    where
      back : c ≡ x.circuit
      back = sym pair.circuit

      each : (m : NetId) → m.0 < length x.circuit.drivers → ((i : ℕ) → driver_at x.circuit m.0 ≡ FromTable i → ⊥) → read m.0 ≡ shown x (λ i. false) m.0
      each m net none =
          forced m.0 d within free
          ∙ are m.0 d (either (value_in row m.0) (latched held (driver_at c m.0))) inside
          ∙ ap (affected x.faults x.number m.0) own
        where
          within : m.0 < length c.drivers
          within = subst (λ (e : Circuit). m.0 < length e.drivers) pair.circuit net

          free : (i : ℕ) → driver_at c m.0 ≡ FromTable i → ⊥
          free i e = none i (ap (λ (f : Circuit). driver_at f m.0) pair.circuit ∙ e)

          inside : m.0 < length forces
          inside = omega (arith, within, size)

          d : Force W
          d = some_force forces m.0 inside

          own : either (value_in row m.0) (latched held (driver_at c m.0)) ≡ driven x.state x.inputs (λ i. false) (driver_at x.circuit m.0)
          own =
              ap₂ either (pair.values m.0 within) (ap (λ (e : Circuit). latched held (driver_at e m.0)) back)
              ∙ sym
              (source_gives x golden order held (subst IsNetlist back sound) (subst (λ (e : Circuit). IsOrder e order) back ordered) (pair.golden_circuit ∙ back) pair.none pair.inputs
              (λ l lt. holds l (subst (λ (e : Circuit). l < length e.latches) pair.circuit lt)) m.0 net none)

  -- where words tell what they differ in
  pub begun : (held : ℕ → Bool) (words next : List W)
      → ((l : ℕ) → l < length c.latches → held l ≡ either (bit_at x.state l) (bit_at golden.state l))
      → ((n : ℕ) → n < length c.drivers → ((i : ℕ) → driver_at c n ≡ FromTable i → ⊥) → bit_at (plane bit k words) n ≡ latched held (driver_at c n))
      → ((n : ℕ) (d : Force W) → n < length c.drivers → bit_at (plane bit k next) n ≡ forced_in bit k row forces d words n)
      → Walked x (read_in bit k row next) [] 0
  begun held words next holds values forced =
      begun_by held (read_in bit k row next) holds
      (λ n d within free.
      ap (either (value_in row n)) (forced n d within)
      ∙ either_back (value_in row n) (force_value bit k (get_or forces n d) (read_in bit k row words n))
      ∙ ap (λ b. force_value bit k (get_or forces n d) (either (value_in row n) b)) (values n within free))
