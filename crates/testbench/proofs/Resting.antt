-- Faults that change nothing in some cycles, where no latch differs before them.
use Rattle.std.proofs.Common.{◌≡◌, ◌≢◌, inl, inr, ◌∙◌, sym, ap, refl, subst, ℕ, zero, suc, ◌+◌, ◌-◌, ◌<◌, ◌≤◌, Bool, false, List, [], ◌∷◌, ◌++◌, length, get_or, take, drop, arith, add-one}
use Rattle.std.specs.Prelude.{◌&&◌, ◌||◌, ◌==◌, not, if◌then◌else◌}
use Rattle.std.specs.List.{All, Contains}
use Rattle.std.proofs.Math.Bool.{and-false}
use Rattle.std.proofs.lemmas.Bool.{cases_eq, eq-eqb, ne_eqb}
use Rattle.std.proofs.lemmas.List.{ext_get_or, length-take-le, take-append-drop, take_all, take_more}
use Rattle.std.proofs.lemmas.List.Elements.{Contains-push_cases}
use Rattle.circuit.specs.declared.parts.Driver.TheVariants.{Table as FromTable}
use Rattle.circuit.specs.declared.parts.Fault.{Fault}
use Rattle.circuit.specs.declared.parts.Fault.TheVariants.{Stuck, Flip, Pulse}
use Rattle.circuit.specs.declared.parts.Latch.{Latch}
use Rattle.circuit.specs.declared.parts.NetId.{NetId}
use Rattle.circuit.specs.Circuit.{Circuit}
use Rattle.circuit.specs.Effects.{affected}
use Rattle.circuit.specs.Order.{IsOrder, IsReady, net_at}
use Rattle.circuit.specs.Sound.{IsNet, IsNetOf, IsNetlist}
use Rattle.circuit.specs.Trace.{cycle_at, flipped, raw_state, trace, vector_at}
use Rattle.circuit.specs.Value.{Cycle, cycle_of, driven, driver_at, net_value, table_at, table_gives}
use Rattle.circuit.proofs.Cycles.{raw_state-append}
use Rattle.circuit.proofs.Steps.{raw_state-suc}
use Rattle.circuit.proofs.ValuesAgain.{value_again}
use Rattle.circuit.proofs.Walks.{driven_same, map_same}
use Rattle.golden_difference.specs.Beside.{DoNothing, trace_differs}
use Rattle.golden_difference.proofs.Exclusive.{none_of_same, same_of_none}
use Rattle.golden_difference.proofs.NextCycle.{state_length}
use Rattle.golden_difference.proofs.Over.{is_over_after}
use Rattle.lane_words.proofs.Armed.{flipped_same}
use Rattle.testbench.specs.Resting.{IsGoldenAt, IsStill, Rest}

-- ---- a stuck-at fault whose net has that value already

taken_before : (order : List NetId) (j : ℕ) (m : NetId) → j < length order → m.0 ≢ (net_at order j).0 → Contains (take (j + 1) order) m → Contains (take j order) m
taken_before order j m lt other has =
    elim (Contains-push_cases (take j order) (net_at order j) m (subst (λ xs. Contains xs m) (take_more order j (record { 0 = 0 }) lt) has)) [
      | inl before ↦ before
      | inr last ↦ absurd (other (sym (ap (λ (n : NetId). n.0) last)))
    ]

at_net : (n : NetId) (value : Bool) (t k : ℕ) (own : Bool) → n.0 ≡ k → affected (Stuck n value ∷ []) t k own ≡ value
at_net n value t k own same = ap (λ b. if b then value else own) (eq-eqb n.0 k same)

elsewhere : (n : NetId) (value : Bool) (t k : ℕ) (own : Bool) → n.0 ≢ k → affected (Stuck n value ∷ []) t k own ≡ own
elsewhere n value t k own other = ap (λ b. if b then value else own) (ne_eqb n.0 k other)

module _ (c : Circuit) (order : List NetId) (sound : IsNetlist c) (ordered : IsOrder c order) (n : NetId) (value : Bool) where
  module _ (t : ℕ) (state inputs : List Bool) (is : net_value (cycle_of c [] t state inputs) n.0 ≡ value) where
    abbrev stuck : Cycle
    stuck = cycle_of c (Stuck n value ∷ []) t state inputs

    abbrev golden : Cycle
    golden = cycle_of c [] t state inputs

    -- what the table of a net reads is as in the golden run
    abbrev ReadsSame : NetId → Type 0
    ReadsSame m = (k : ℕ) → driver_at c m.0 ≡ FromTable k → All (λ (read : NetId). net_value stuck read.0 ≡ net_value golden read.0) (table_at c.tables k).ins

    -- and so is its value
    value_same : (m : NetId) → IsNet c m → ReadsSame m → net_value stuck m.0 ≡ net_value golden m.0
    value_same m net same =
        elim (cases_eq n.0 m.0) as (λ _. net_value stuck m.0 ≡ net_value golden m.0) [
          | inl here ↦ value_again stuck order sound ordered m.0 net
              ∙ at_net n value t m.0 (driven state inputs (table_gives c (net_value stuck)) (driver_at c m.0)) here ∙ sym is ∙ ap (net_value golden) here
          | inr other ↦ value_again stuck order sound ordered m.0 net
              ∙ elsewhere n value t m.0 (driven state inputs (table_gives c (net_value stuck)) (driver_at c m.0)) other
              ∙ driven_same c state inputs (net_value stuck) (net_value golden) (driver_at c m.0) same
              ∙ sym (value_again golden order sound ordered m.0 net)
        ]

    abbrev AreAlike : ℕ → Type 0
    AreAlike j = (m : NetId) → IsNet c m → IsReady c (take j order) m → net_value stuck m.0 ≡ net_value golden m.0

    reads_alike : (j : ℕ) → j < length order → AreAlike j → (m : NetId) → m.0 ≡ (net_at order j).0 → ReadsSame m
    reads_alike j lt earlier m same k e i d within =
        let place : driver_at c (net_at order j).0 ≡ FromTable k = ap (driver_at c) (sym same) ∙ e in
        let net : (net_at order j).0 < length c.drivers = ordered.nets j (record { 0 = 0 }) lt in
        let fits : k < length c.tables = subst (IsNetOf c (net_at order j).0) place (sound.nets (net_at order j).0 net) in
        earlier (get_or (table_at c.tables k).ins i d) ((sound.tables k fits).ins i d within) (ordered.after j k lt place i d within)

    alike : (j : ℕ) → j ≤ length order → AreAlike j
    alike zero le m net ready = value_same m net (λ k e. let has = ready k e in absurd (omega (arith, has.1)))
    alike (suc j) le m net ready =
        let lt : j < length order = omega (arith, le) in
        let next : j + 1 ≡ suc j = add-one j in
        let earlier : AreAlike j = alike j (omega (arith, lt)) in
        elim (cases_eq m.0 (net_at order j).0) as (λ _. net_value stuck m.0 ≡ net_value golden m.0) [
          | inl same ↦ value_same m net (reads_alike j lt earlier m same)
          | inr other ↦ earlier m net (λ k e. taken_before order j m lt other (subst (λ i. Contains (take i order) m) (sym next) (ready k e)))
        ]

    all_alike : (m : NetId) → IsNet c m → net_value stuck m.0 ≡ net_value golden m.0
    all_alike m net =
        alike (length order) (omega arith) m net (subst (λ done. IsReady c done m) (sym (take_all (length order) order (omega arith))) (ordered.whole m net))

  module _ (vectors : List (List Bool)) where
    abbrev HasValue : ℕ → Type 0
    HasValue t = trace c [] vectors t n.0 ≡ value

    pub one_cycle : (t : ℕ) → raw_state c (Stuck n value ∷ []) vectors t ≡ raw_state c [] vectors t → HasValue t
        → (m : NetId) → IsNet c m → trace c (Stuck n value ∷ []) vectors t m.0 ≡ trace c [] vectors t m.0
    one_cycle t same has m net =
        let raw : List Bool = raw_state c [] vectors t in
        let plain : flipped [] t raw ≡ raw = flipped_same [] t 0 raw (λ l. refl) in
        ap (λ state. net_value (cycle_of c (Stuck n value ∷ []) t state (vector_at vectors t)) m.0)
        (flipped_same (Stuck n value ∷ []) t 0 (raw_state c (Stuck n value ∷ []) vectors t) (λ l. refl) ∙ same)
        ∙ all_alike t raw (vector_at vectors t) (ap (λ state. net_value (cycle_of c [] t state (vector_at vectors t)) n.0) (sym plain) ∙ has) m net
        ∙ ap (λ state. net_value (cycle_of c [] t state (vector_at vectors t)) m.0) (sym plain)

    -- from a cycle on whose start the latches hold the same
    raw_later : (from j : ℕ) → raw_state c (Stuck n value ∷ []) vectors from ≡ raw_state c [] vectors from → ((u : ℕ) → from ≤ u → u < from + j → HasValue u)
        → raw_state c (Stuck n value ∷ []) vectors (from + j) ≡ raw_state c [] vectors (from + j)
    raw_later from zero same has =
        let here : from ≡ from + 0 = omega arith in
        ap (raw_state c (Stuck n value ∷ []) vectors) (sym here) ∙ same ∙ ap (raw_state c [] vectors) here
    raw_later from (suc j) same has =
        let next : suc (from + j) ≡ from + suc j = omega arith in
        ap (raw_state c (Stuck n value ∷ []) vectors) (sym next)
        ∙ raw_state-suc c (Stuck n value ∷ []) vectors (from + j)
        ∙ map_same (λ (latch : Latch). net_value (cycle_at c (Stuck n value ∷ []) vectors (from + j)) latch.from.0)
        (λ (latch : Latch). net_value (cycle_at c [] vectors (from + j)) latch.from.0) c.latches
        (λ l d within. one_cycle (from + j) (raw_later from j same (λ u begun lt. has u begun (omega (arith, lt)))) (has (from + j) (omega arith) (omega arith))
        (get_or c.latches l d).from (sound.sources l d within))
        ∙ sym (raw_state-suc c [] vectors (from + j))
        ∙ ap (raw_state c [] vectors) next

    -- so long as the net has that value, no net differs
    pub still_from : (from to : ℕ) → raw_state c (Stuck n value ∷ []) vectors from ≡ raw_state c [] vectors from → ((u : ℕ) → from ≤ u → u < to → HasValue u)
        → (t : ℕ) → from ≤ t → t < to → (m : NetId) → IsNet c m → trace c (Stuck n value ∷ []) vectors t m.0 ≡ trace c [] vectors t m.0
    still_from from to same has t begun lt m net =
        let last : from + (t - from) ≡ t = omega (arith, begun) in
        one_cycle t
        (ap (raw_state c (Stuck n value ∷ []) vectors) (sym last)
        ∙ raw_later from (t - from) same (λ u start less. has u start (omega (arith, less, last, lt)))
        ∙ ap (raw_state c [] vectors) last)
        (has t begun lt) m net

  -- a net that is stuck has that value
  pub stuck_value : (vectors : List (List Bool)) (t : ℕ) → IsNet c n → trace c (Stuck n value ∷ []) vectors t n.0 ≡ value
  stuck_value vectors t net =
      value_again (cycle_at c (Stuck n value ∷ []) vectors t) order sound ordered n.0 net
      ∙ at_net n value t n.0
      (driven (flipped (Stuck n value ∷ []) t (raw_state c (Stuck n value ∷ []) vectors t)) (vector_at vectors t)
      (table_gives c (net_value (cycle_at c (Stuck n value ∷ []) vectors t))) (driver_at c n.0)) refl

-- ---- faults in a stretch of a run

-- where no latch differs they all hold the same
pub same_raw : (c : Circuit) (faults : List Fault) (vectors : List (List Bool)) (t : ℕ) → IsGoldenAt c faults vectors t → raw_state c faults vectors t ≡ raw_state c [] vectors t
same_raw c faults vectors t golden =
    ext_get_or false (raw_state c faults vectors t) (raw_state c [] vectors t) (state_length c faults vectors t ∙ sym (state_length c [] vectors t))
    (λ l less. same_of_none _ _ (golden l (omega (arith, less, state_length c faults vectors t))))

-- A STUCK-AT FAULT rests while its net has that value
stuck_still : (c : Circuit) (order : List NetId) → IsNetlist c → IsOrder c order → (n : NetId) (value : Bool) (vectors : List (List Bool)) (from to : ℕ)
    → ((u : ℕ) → from ≤ u → u < to → trace c [] vectors u n.0 ≡ value) → IsStill c (Stuck n value ∷ []) vectors from to
stuck_still c order sound ordered n value vectors from to has golden t net begun lt within =
    none_of_same _ _ (still_from c order sound ordered n value vectors from to (same_raw c (Stuck n value ∷ []) vectors from golden) has t begun lt (record { 0 = net }) within)

-- in other cycles than its own a flip and a pulse do nothing
flip_elsewhere : (l t u : ℕ) → t ≢ u → DoNothing (Flip l t ∷ []) u
flip_elsewhere l t u other = record {
  nets = λ net own. refl;
  latches = λ bits. flipped_same (Flip l t ∷ []) u 0 bits (λ m. ap (λ b. (l == m && b) || false) (ne_eqb t u other) ∙ ap (λ b. b || false) (and-false (l == m)));
}

pulse_elsewhere : (n : NetId) (t u : ℕ) → t ≢ u → DoNothing (Pulse n t ∷ []) u
pulse_elsewhere n t u other = record {
  nets = λ net own. ap (λ b. if (n.0 == net && b) || false then not own else own) (ne_eqb t u other) ∙ ap (λ b. if b || false then not own else own) (and-false (n.0 == net));
  latches = λ bits. flipped_same (Pulse n t ∷ []) u 0 bits (λ m. refl);
}

-- FAULTS THAT DO NOTHING rest
idle_still : (c : Circuit) (faults : List Fault) (vectors : List (List Bool)) (from to : ℕ) → to ≤ length vectors
    → ((u : ℕ) → from ≤ u → u < to → DoNothing faults u) → IsStill c faults vectors from to
idle_still c faults vectors from to le idle golden t net begun lt within =
    let first : List (List Bool) = take from vectors in
    let size : length first ≡ from = length-take-le from vectors (omega (arith, begun, lt, le)) in
    let whole : first ++ drop from vectors ≡ vectors = take-append-drop from vectors in
    let start : raw_state c faults first from ≡ raw_state c [] first from =
    sym (raw_state-append c faults first (drop from vectors) from (omega (arith, size)))
    ∙ ap (λ (vs : List (List Bool)). raw_state c faults vs from) whole
    ∙ same_raw c faults vectors from golden
    ∙ ap (λ (vs : List (List Bool)). raw_state c [] vs from) (sym whole)
    ∙ raw_state-append c [] first (drop from vectors) from (omega (arith, size)) in
    sym (ap (λ (vs : List (List Bool)). trace_differs c faults vs t net) whole)
    ∙ is_over_after c faults first to
    (λ l less. none_of_same _ _ (ap (λ n. get_or (raw_state c faults first n) l false) size ∙ ap (λ (bits : List Bool). get_or bits l false) start ∙ ap (λ n. get_or (raw_state c [] first n) l false) (sym size)))
    (λ u after less. idle u (omega (arith, after, size)) less) (drop from vectors) t net (omega (arith, begun, size)) lt within

-- where no net differs the latches stay as in the golden run
golden_after : (c : Circuit) → IsNetlist c → (faults : List Fault) (vectors : List (List Bool)) (from to : ℕ) → from ≤ to
    → IsGoldenAt c faults vectors from → IsStill c faults vectors from to → IsGoldenAt c faults vectors to
golden_after c sound faults vectors from zero le golden still =
    let here : from ≡ 0 = omega (arith, le) in
    subst (λ n. IsGoldenAt c faults vectors n) here golden
golden_after c sound faults vectors from (suc u) le golden still =
    elim (cases_eq from (suc u)) as (λ _. IsGoldenAt c faults vectors (suc u)) [
      | inl same ↦ subst (λ n. IsGoldenAt c faults vectors n) same golden
      | inr less ↦ λ l lt. none_of_same _ _ (ap (λ (bits : List Bool). get_or bits l false)
          (raw_state-suc c faults vectors u
          ∙ map_same (λ (latch : Latch). net_value (cycle_at c faults vectors u) latch.from.0) (λ (latch : Latch). net_value (cycle_at c [] vectors u) latch.from.0) c.latches
          (λ k d within. same_of_none _ _ (still golden u (get_or c.latches k d).from.0 (omega (arith, le, less)) (omega arith) (sound.sources k d within)))
          ∙ sym (raw_state-suc c [] vectors u)))
    ]

-- so they rest
rest_of : (c : Circuit) → IsNetlist c → (faults : List Fault) (vectors : List (List Bool)) (from to : ℕ) → from ≤ to → IsStill c faults vectors from to → Rest c faults vectors from to
rest_of c sound faults vectors from to le still = record { nets = still; latches = λ golden. golden_after c sound faults vectors from to le golden still }

pub stuck_rests : (c : Circuit) (order : List NetId) → IsNetlist c → IsOrder c order → (n : NetId) (value : Bool) (vectors : List (List Bool)) (from to : ℕ) → from ≤ to
    → ((u : ℕ) → from ≤ u → u < to → trace c [] vectors u n.0 ≡ value) → Rest c (Stuck n value ∷ []) vectors from to
stuck_rests c order sound ordered n value vectors from to le has =
    rest_of c sound (Stuck n value ∷ []) vectors from to le (stuck_still c order sound ordered n value vectors from to has)

pub flip_rests : (c : Circuit) → IsNetlist c → (l own : ℕ) (vectors : List (List Bool)) (from to : ℕ) → from ≤ to → to ≤ length vectors
    → ((u : ℕ) → from ≤ u → u < to → own ≢ u) → Rest c (Flip l own ∷ []) vectors from to
flip_rests c sound l own vectors from to le within other =
    rest_of c sound (Flip l own ∷ []) vectors from to le (idle_still c (Flip l own ∷ []) vectors from to within (λ u begun lt. flip_elsewhere l own u (other u begun lt)))

pub pulse_rests : (c : Circuit) → IsNetlist c → (n : NetId) (own : ℕ) (vectors : List (List Bool)) (from to : ℕ) → from ≤ to → to ≤ length vectors
    → ((u : ℕ) → from ≤ u → u < to → own ≢ u) → Rest c (Pulse n own ∷ []) vectors from to
pulse_rests c sound n own vectors from to le within other =
    rest_of c sound (Pulse n own ∷ []) vectors from to le (idle_still c (Pulse n own ∷ []) vectors from to within (λ u begun lt. pulse_elsewhere n own u (other u begun lt)))
