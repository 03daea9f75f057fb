-- A flip and a pulse are excited in their own cycle; before it nothing differs.
use Rattle.std.proofs.Common.{◌≡◌, inl, inr, ℕ, zero, suc, ◌+◌, ◌<◌, Bool, true, false, not, ◌&&◌, ◌||◌, List, [], ◌∷◌, length, get_or, refl, add-one, ap, ap₂, sym, ◌∙◌, arith}
use Rattle.std.specs.Prelude.{◌==◌, nat_lt, if◌then◌else◌}
use Rattle.std.specs.List.{list_any}
use Rattle.std.proofs.Math.Bool.{and-false}
use Rattle.std.proofs.lemmas.Bool.{cases_lt, eq-eqb, le-ltb, lt-ltb, ne_eqb}
use Rattle.std.proofs.lemmas.Option.{get_or_from_slice_get, slice_get-get_or, slice_get_within}
use Rattle.circuit.specs.declared.parts.Driver.TheVariants.{Input, Latch as FromLatch}
use Rattle.circuit.specs.declared.parts.Fault.{Fault}
use Rattle.circuit.specs.declared.parts.Fault.TheVariants.{Flip, Pulse}
use Rattle.circuit.specs.declared.parts.Latch.{Latch}
use Rattle.circuit.specs.declared.parts.NetId.{NetId}
use Rattle.circuit.specs.Circuit.{Circuit}
use Rattle.circuit.specs.Effects.{affected, inverted}
use Rattle.circuit.specs.Order.{IsOrder}
use Rattle.circuit.specs.Sound.{IsNet, IsNetlist}
use Rattle.circuit.specs.Trace.{cycle_at, flipped, raw_state, trace, vector_at}
use Rattle.circuit.specs.Value.{bit_at, cycle_of, driven, driver_at, net_value, table_gives, val}
use Rattle.circuit.proofs.Steps.{raw_state-suc, raw_state-zero, val-suc}
use Rattle.circuit.proofs.Walks.{map_same}
use Rattle.fault_list.specs.Faults.{latch_numbered}
use Rattle.fm_base.specs.Lists.{same_bit, some_below}
use Rattle.fm_base.proofs.Below.{some_below-at, some_below-true}
use Rattle.fm_base.proofs.Tests.{clash, false_of}
use Rattle.golden_difference.specs.Beside.{DoNothing}
use Rattle.golden_difference.proofs.Exclusive.{none_of_same, same_of_none}
use Rattle.golden_difference.proofs.NextCycle.{at_flipped, state_length}
use Rattle.golden_difference.proofs.Over.{is_over_after}
use Rattle.lane_words.proofs.Armed.{flipped_same}
use Rattle.workload.specs.declared.run.Run.{Run}
use Rattle.workload.specs.Runs.{cycles_of}
use Rattle.campaign_plan.specs.Danger.{with_faults}
use Rattle.readings.specs.Laws.{FlipIsExcited, PulseIsExcited}
use Rattle.readings.proofs.Pulsing.{inverts}

-- ---- before its cycle a fault does nothing

not_yet : (t u : ℕ) → u < t → (t == u) ≡ false
not_yet t u lt = ne_eqb t u (omega (arith, lt))

pub flip_idle : (l t u : ℕ) → u < t → DoNothing (Flip l t ∷ []) u
flip_idle l t u lt = record {
  nets = λ net own. refl;
  latches = λ bits. flipped_same (Flip l t ∷ []) u 0 bits (λ m. ap (λ b. (l == m && b) || false) (not_yet t u lt) ∙ ap (λ b. b || false) (and-false (l == m)));
}

pub pulse_idle : (n : NetId) (t u : ℕ) → u < t → DoNothing (Pulse n t ∷ []) u
pulse_idle n t u lt = record {
  nets = λ net own. ap (λ b. if (n.0 == net && b) || false then not own else own) (not_yet t u lt) ∙ ap (λ b. if b || false then not own else own) (and-false (n.0 == net));
  latches = λ bits. flipped_same (Pulse n t ∷ []) u 0 bits (λ m. refl);
}

-- ---- so nothing differs before it, and the latches hold the same at its start

module _ (c : Circuit) (sound : IsNetlist c) (f : Fault) where
  pub before : (t : ℕ) → ((u : ℕ) → u < t → DoNothing (f ∷ []) u) → (vectors : List (List Bool)) (u net : ℕ) → u < t → net < length c.drivers
      → trace c (f ∷ []) vectors u net ≡ trace c [] vectors u net
  before t idle vectors u net lt within =
      same_of_none _ _ (is_over_after c (f ∷ []) [] t
      (λ l less. none_of_same _ _ (ap (λ (bits : List Bool). bit_at bits l) (raw_state-zero c (f ∷ []) [] ∙ sym (raw_state-zero c [] []))))
      (λ v from less. idle v less) vectors u net (omega arith) lt within)

  raw_same : (t : ℕ) → ((u : ℕ) → u < t → DoNothing (f ∷ []) u) → (vectors : List (List Bool)) → raw_state c (f ∷ []) vectors t ≡ raw_state c [] vectors t
  raw_same zero idle vectors = raw_state-zero c (f ∷ []) vectors ∙ sym (raw_state-zero c [] vectors)
  raw_same (suc u) idle vectors =
      raw_state-suc c (f ∷ []) vectors u
      ∙ map_same (λ (latch : Latch). net_value (cycle_at c (f ∷ []) vectors u) latch.from.0) (λ (latch : Latch). net_value (cycle_at c [] vectors u) latch.from.0) c.latches
      (λ l d within. before (suc u) idle vectors u (get_or c.latches l d).from.0 (omega arith) (sound.sources l d within))
      ∙ sym (raw_state-suc c [] vectors u)

-- ---- in its cycle its net differs

pub unflipped : (t : ℕ) (bits : List Bool) → flipped [] t bits ≡ bits
unflipped t bits = flipped_same [] t 0 bits (λ l. refl)

pulse_differs : (c : Circuit) (order : List NetId) → IsNetlist c → IsOrder c order → (n : NetId) (t : ℕ) → IsNet c n → (vectors : List (List Bool))
    → trace c (Pulse n t ∷ []) vectors t n.0 ≡ not (trace c [] vectors t n.0)
pulse_differs c order sound ordered n t net vectors =
    let raw : List Bool = raw_state c [] vectors t in
    ap (λ state. net_value (cycle_of c (Pulse n t ∷ []) t state (vector_at vectors t)) n.0)
    (flipped_same (Pulse n t ∷ []) t 0 (raw_state c (Pulse n t ∷ []) vectors t) (λ m. refl) ∙ raw_same c sound (Pulse n t) t (λ u lt. pulse_idle n t u lt) vectors)
    ∙ inverts c order sound ordered n t raw (vector_at vectors t) net
    ∙ ap (λ state. not (net_value (cycle_of c [] t state (vector_at vectors t)) n.0)) (sym (unflipped t raw))

-- the net of a latch has what the latch holds, where no fault is on it
of_latch : (c : Circuit) (faults : List Fault) (t : ℕ) (state inputs : List Bool) (net l : ℕ) → driver_at c net ≡ FromLatch l
    → ((own : Bool) → affected faults t net own ≡ own) → net_value (cycle_of c faults t state inputs) net ≡ bit_at state l
of_latch c faults t state inputs net l driver plain =
    ap (λ depth. val depth (cycle_of c faults t state inputs) net) (add-one (length c.tables))
    ∙ val-suc (length c.tables) (cycle_of c faults t state inputs) net
    ∙ plain (driven state inputs (table_gives c (val (length c.tables) (cycle_of c faults t state inputs))) (driver_at c net))
    ∙ ap (driven state inputs (table_gives c (val (length c.tables) (cycle_of c faults t state inputs)))) driver

flip_differs : (c : Circuit) → IsNetlist c → (l t : ℕ) → l < length c.latches → (vectors : List (List Bool))
    → trace c (Flip l t ∷ []) vectors t (latch_numbered c l).to.0 ≡ not (trace c [] vectors t (latch_numbered c l).to.0)
flip_differs c sound l t lt vectors =
    of_latch c (Flip l t ∷ []) t (flipped (Flip l t ∷ []) t raw') (vector_at vectors t) to l driver (λ own. refl)
    ∙ at_flipped (Flip l t ∷ []) t 0 raw' l (omega (arith, lt, state_length c (Flip l t ∷ []) vectors t))
    ∙ ap₂ (λ a b. inverted ((a && b) || false) (bit_at raw' l)) (eq-eqb l (0 + l) (omega arith)) (eq-eqb t t refl)
    ∙ ap (λ (bits : List Bool). not (bit_at bits l)) (raw_same c sound (Flip l t) t (λ u less. flip_idle l t u less) vectors)
    ∙ ap not (sym (of_latch c [] t (flipped [] t raw) (vector_at vectors t) to l driver (λ own. refl) ∙ ap (λ (bits : List Bool). bit_at bits l) (unflipped t raw)))
  where
    to : ℕ
    to = (latch_numbered c l).to.0

    raw : List Bool
    raw = raw_state c [] vectors t

    raw' : List Bool
    raw' = raw_state c (Flip l t ∷ []) vectors t

    driver : driver_at c to ≡ FromLatch l
    driver = get_or_from_slice_get c.drivers to (FromLatch l) (Input 0) (sound.latches l (latch_numbered c l) (slice_get-get_or c.latches l _ lt))

-- ---- so its run is excited where it has this cycle

no_change : (b : Bool) → not (same_bit b b) ≡ false
no_change true = refl
no_change false = refl

change : (b : Bool) → not (same_bit (not b) b) ≡ true
change true = refl
change false = refl

only_at : (n t : ℕ) (test : ℕ → Bool) → test t ≡ true → ((u : ℕ) → u < t → test u ≡ false) → some_below n test ≡ nat_lt t n
only_at n t test here early =
    elim (cases_lt t n) [
      | inl lt ↦ some_below-at n test t lt here ∙ sym (lt-ltb t n lt)
      | inr le ↦ false_of (some_below n test) (λ some.
          let found : (u : ℕ) × (u < n) × (test u ≡ true) = some_below-true n test some in
          clash (test found.0) found.2 (early found.0 (omega (arith, le, found.1)))) ∙ sym (le-ltb t n le)
    ]

module _ (c : Circuit) (sound : IsNetlist c) (f : Fault) (net t : ℕ) (within : net < length c.drivers) (idle : (u : ℕ) → u < t → DoNothing (f ∷ []) u)
    (differs : (vectors : List (List Bool)) → trace c (f ∷ []) vectors t net ≡ not (trace c [] vectors t net)) where
  in_run : (run : Run) → some_below (cycles_of run) (λ u. not (same_bit (with_faults c (f ∷ []) run u (record { 0 = net })) (with_faults c [] run u (record { 0 = net })))) ≡ nat_lt t (cycles_of run)
  in_run run =
      only_at (cycles_of run) t (λ u. not (same_bit (trace c (f ∷ []) run.vectors u net) (trace c [] run.vectors u net)))
      (ap (λ b. not (same_bit b (trace c [] run.vectors t net))) (differs run.vectors) ∙ change (trace c [] run.vectors t net))
      (λ u lt. ap (λ b. not (same_bit b (trace c [] run.vectors u net))) (before c sound f t idle run.vectors u net lt within) ∙ no_change (trace c [] run.vectors u net))

-- A FLIP
pub flip_excited : FlipIsExcited
flip_excited p l t sound lt =
    λ i. list_any (λ run. in_run p.circuit sound (Flip l t) (latch_numbered p.circuit l).to.0 t is_net (λ u less. flip_idle l t u less) (flip_differs p.circuit sound l t lt) run i) p.runs
  where
    is_net : (latch_numbered p.circuit l).to.0 < length p.circuit.drivers
    is_net =
        let at = sound.latches l (latch_numbered p.circuit l) (slice_get-get_or p.circuit.latches l _ lt) in
        slice_get_within p.circuit.drivers (latch_numbered p.circuit l).to.0 (FromLatch l) at

-- A PULSE
pub pulse_excited : PulseIsExcited
pulse_excited p order n t sound ordered net =
    λ i. list_any (λ run. in_run p.circuit sound (Pulse n t) n.0 t net (λ u less. pulse_idle n t u less) (pulse_differs p.circuit order sound ordered n t net) run i) p.runs
