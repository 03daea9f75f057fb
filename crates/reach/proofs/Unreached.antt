-- What no fault can change is as in the golden run.
use Rattle.std.proofs.Common.{◌≡◌, ◌⊎◌, inl, inr, ℕ, zero, suc, ◌+◌, ◌<◌, Bool, true, false, List, [], ◌∷◌, length, get_or, refl, ap, sym, ◌∙◌, subst, arith, Some}
use Rattle.std.specs.List.{All, Contains, slice_get, list_any}
use Rattle.std.specs.Option.{option_map_or}
use Rattle.std.proofs.lemmas.Bool.{cases_Bool, eqb-true, true≢false}
use Rattle.std.proofs.lemmas.List.{get_or-map}
use Rattle.std.proofs.lemmas.List.Elements.{All-contains, Contains-get_or}
use Rattle.std.proofs.lemmas.List.Folds.{list_any_none}
use Rattle.std.proofs.lemmas.Option.{get_or_from_slice_get, slice_get_within}
use Rattle.circuit.specs.declared.parts.Driver.{Driver}
use Rattle.circuit.specs.declared.parts.Driver.TheVariants.{Input, Table as FromTable, Latch as FromLatch}
use Rattle.circuit.specs.declared.parts.Fault.{Fault}
use Rattle.circuit.specs.declared.parts.Fault.TheVariants.{Stuck, Flip, Pulse}
use Rattle.circuit.specs.declared.parts.Latch.{Latch}
use Rattle.circuit.specs.declared.parts.NetId.{NetId}
use Rattle.circuit.specs.Circuit.{Circuit}
use Rattle.circuit.specs.Effects.{has_flip, inverted, is_flip_of}
use Rattle.circuit.specs.Sound.{IsNet, IsNetOf, IsNetlist}
use Rattle.circuit.specs.Table.{table_value}
use Rattle.circuit.specs.Trace.{cycle_at, flipped, raw_state, trace, vector_at}
use Rattle.circuit.specs.Value.{bit_at, cycle_of, driven, driver_at, net_value, table_at, table_gives, val}
use Rattle.circuit.proofs.Steps.{raw_state-suc, raw_state-zero, val-suc, val-zero}
use Rattle.circuit.proofs.Walks.{map_same}
use Rattle.fm_base.proofs.Tests.{and_both}
use Rattle.golden_difference.proofs.NextCycle.{at_flipped, state_length}
use Rattle.lane_words.proofs.Armed.{lane_free}
use Rattle.lane_words.specs.Loads.{is_on}
use Rattle.reach.specs.Paths.{ActsOn, CanChange, Path, reads_of}

pub same_net : (a b : NetId) → a.0 ≡ b.0 → a ≡ b
same_net a b e = ap (λ (n : ℕ). let id : NetId = record { 0 = n } in id) e

-- a path goes on
path_more : (c : Circuit) (n : ℕ) (net mid next : NetId) → Path c n net mid → Contains (reads_of c (driver_at c next.0)) mid → Path c (suc n) net next
path_more c zero net mid next same reads = (next, subst (λ (m : NetId). Contains (reads_of c (driver_at c next.0)) m) (sym same) reads, refl)
path_more c (suc n) net mid next path reads = (path.0, path.1, path_more c n path.0 mid next path.2 reads)

-- a driver gives the same where its table or its latch does
driven_alike : (state golden inputs : List Bool) (f g : ℕ → Bool) (driver : Driver) → ((k : ℕ) → driver ≡ FromTable k → f k ≡ g k)
    → ((k : ℕ) → driver ≡ FromLatch k → bit_at state k ≡ bit_at golden k) → driven state inputs f driver ≡ driven golden inputs g driver
driven_alike state golden inputs f g (Input k) tables latches = refl
driven_alike state golden inputs f g (FromTable k) tables latches = tables k refl
driven_alike state golden inputs f g (FromLatch k) tables latches = latches k refl

-- a fault that changes a net or flips a latch acts there
on_acts : (c : Circuit) (net : NetId) (fault : Fault) → is_on net.0 fault ≡ true → ActsOn c net fault
on_acts c net (Stuck n value) e = same_net n net (eqb-true n.0 net.0 e)
on_acts c net (Flip l cycle) e = absurd (true≢false (sym e))
on_acts c net (Pulse n cycle) e = same_net n net (eqb-true n.0 net.0 e)

flip_acts : (c : Circuit) (l : ℕ) (latch : Latch) (t : ℕ) (fault : Fault) → slice_get c.latches l ≡ Some latch → is_flip_of l t fault ≡ true → ActsOn c latch.to fault
flip_acts c l latch t (Stuck n value) at e = absurd (true≢false (sym e))
flip_acts c l latch t (Flip m cycle) at e = (latch, ap (slice_get c.latches) (eqb-true m l (and_both _ _ e).0) ∙ at, refl)
flip_acts c l latch t (Pulse n cycle) at e = absurd (true≢false (sym e))

module _ (c : Circuit) (faults : List Fault) (sound : IsNetlist c) where
  -- no fault can change this net
  abbrev Unreached : NetId → Type 0
  Unreached net = All (λ fault. ¬ (CanChange c fault net)) faults

  -- nor then what its driver reads
  unreached_back : (net read : NetId) → Contains (reads_of c (driver_at c net.0)) read → Unreached net → Unreached read
  unreached_back net read reads none i d lt found =
      none i d lt (found.0, found.1, (suc found.2.0, path_more c found.2.0 found.0 read net found.2.1 reads))

  off_net : (net : NetId) → Unreached net → list_any (is_on net.0) faults ≡ false
  off_net net none = list_any_none (is_on net.0) faults (λ i d lt. off i d lt (cases_Bool (is_on net.0 (get_or faults i d))))
    where
      off : (i : ℕ) (d : Fault) → i < length faults → (is_on net.0 (get_or faults i d) ≡ true) ⊎ (is_on net.0 (get_or faults i d) ≡ false)
          → is_on net.0 (get_or faults i d) ≡ false
      off i d lt (inl on) = absurd (none i d lt (net, on_acts c net (get_or faults i d) on, (0, refl)))
      off i d lt (inr not_on) = not_on

  no_flip : (l : ℕ) (latch : Latch) (t : ℕ) → slice_get c.latches l ≡ Some latch → Unreached latch.to → has_flip faults l t ≡ false
  no_flip l latch t at none = list_any_none (is_flip_of l t) faults (λ i d lt. off i d lt (cases_Bool (is_flip_of l t (get_or faults i d))))
    where
      off : (i : ℕ) (d : Fault) → i < length faults → (is_flip_of l t (get_or faults i d) ≡ true) ⊎ (is_flip_of l t (get_or faults i d) ≡ false)
          → is_flip_of l t (get_or faults i d) ≡ false
      off i d lt (inl on) = absurd (none i d lt (latch.to, flip_acts c l latch t (get_or faults i d) at on, (0, refl)))
      off i d lt (inr not_on) = not_on

  is_table : (net : NetId) (k : ℕ) → IsNet c net → driver_at c net.0 ≡ FromTable k → k < length c.tables
  is_table net k within e = subst (IsNetOf c net.0) e (sound.nets net.0 within)

  read_by : (net : NetId) (k : ℕ) → driver_at c net.0 ≡ FromTable k → (i : ℕ) (d : NetId) → i < length (table_at c.tables k).ins
      → Contains (reads_of c (driver_at c net.0)) (get_or (table_at c.tables k).ins i d)
  read_by net k e i d lt =
      subst (λ (driver : Driver). Contains (reads_of c driver) (get_or (table_at c.tables k).ins i d)) (sym e) (Contains-get_or (table_at c.tables k).ins i d lt)

  -- the latches whose nets no fault can change hold the same
  abbrev HoldSame : (state golden : List Bool) → Type 0
  HoldSame state golden = (l : ℕ) (latch : Latch) → slice_get c.latches l ≡ Some latch → Unreached latch.to → bit_at state l ≡ bit_at golden l

  module _ (t : ℕ) (state golden inputs : List Bool) (held : HoldSame state golden) where
    latch_same : (net : NetId) (k : ℕ) → IsNet c net → Unreached net → driver_at c net.0 ≡ FromLatch k → bit_at state k ≡ bit_at golden k
    latch_same net k within none e =
        let own : IsNetOf c net.0 (FromLatch k) = subst (IsNetOf c net.0) e (sound.nets net.0 within) in
        held k own.0 own.1 (subst (λ (m : NetId). Unreached m) (sym (same_net own.0.to net own.2)) none)

    -- in one cycle
    value_same : (depth : ℕ) (net : NetId) → IsNet c net → Unreached net
        → val depth (cycle_of c faults t state inputs) net.0 ≡ val depth (cycle_of c [] t golden inputs) net.0
    value_same zero net within none =
        val-zero (cycle_of c faults t state inputs) net.0
        ∙ lane_free faults t net.0 (driven state inputs (λ k. false) (driver_at c net.0)) (off_net net none)
        ∙ driven_alike state golden inputs (λ k. false) (λ k. false) (driver_at c net.0) (λ k e. refl) (λ k e. latch_same net k within none e)
        ∙ sym (val-zero (cycle_of c [] t golden inputs) net.0)
    value_same (suc depth) net within none =
        val-suc depth (cycle_of c faults t state inputs) net.0
        ∙ lane_free faults t net.0 (driven state inputs (table_gives c (val depth (cycle_of c faults t state inputs))) (driver_at c net.0)) (off_net net none)
        ∙ driven_alike state golden inputs (table_gives c (val depth (cycle_of c faults t state inputs))) (table_gives c (val depth (cycle_of c [] t golden inputs)))
        (driver_at c net.0)
        (λ k e.
        ap (table_value (table_at c.tables k))
        (map_same (λ (m : NetId). val depth (cycle_of c faults t state inputs) m.0) (λ (m : NetId). val depth (cycle_of c [] t golden inputs) m.0) (table_at c.tables k).ins
        (λ i d lt.
        value_same depth (get_or (table_at c.tables k).ins i d) ((sound.tables k (is_table net k within e)).ins i d lt)
        (unreached_back net (get_or (table_at c.tables k).ins i d) (read_by net k e i d lt) none))))
        (λ k e. latch_same net k within none e)
        ∙ sym (val-suc depth (cycle_of c [] t golden inputs) net.0)

  -- in a cycle that begins so
  trace_from : (vectors : List (List Bool)) (t : ℕ) → HoldSame (raw_state c faults vectors t) (raw_state c [] vectors t)
      → (net : NetId) → IsNet c net → Unreached net → trace c faults vectors t net.0 ≡ trace c [] vectors t net.0
  trace_from vectors t held net within none =
      value_same t (flipped faults t (raw_state c faults vectors t)) (flipped [] t (raw_state c [] vectors t)) (vector_at vectors t) after (length c.tables + 1) net within none
    where
      after : HoldSame (flipped faults t (raw_state c faults vectors t)) (flipped [] t (raw_state c [] vectors t))
      after l latch at free =
          let here : 0 + l ≡ l = omega arith in
          let lt : l < length c.latches = slice_get_within c.latches l latch at in
          at_flipped faults t 0 (raw_state c faults vectors t) l (omega (arith, lt, state_length c faults vectors t))
          ∙ ap (λ b. inverted b (bit_at (raw_state c faults vectors t) l)) (ap (λ n. has_flip faults n t) here ∙ no_flip l latch t at free)
          ∙ held l latch at free
          ∙ sym (at_flipped [] t 0 (raw_state c [] vectors t) l (omega (arith, lt, state_length c [] vectors t)))

  -- what a latch takes
  taken : (fs : List Fault) (vectors : List (List Bool)) (t l : ℕ) (latch : Latch) → slice_get c.latches l ≡ Some latch
      → bit_at (raw_state c fs vectors (suc t)) l ≡ trace c fs vectors t latch.from.0
  taken fs vectors t l latch at =
      ap (λ (bits : List Bool). bit_at bits l) (raw_state-suc c fs vectors t)
      ∙ get_or-map (λ (m : Latch). net_value (cycle_at c fs vectors t) m.from.0) c.latches l latch false (slice_get_within c.latches l latch at)
      ∙ ap (λ (m : Latch). net_value (cycle_at c fs vectors t) m.from.0) (get_or_from_slice_get c.latches l latch latch at)

  -- cycle by cycle
  state_same : (vectors : List (List Bool)) (t : ℕ) → HoldSame (raw_state c faults vectors t) (raw_state c [] vectors t)
  state_same vectors zero l latch at none =
      ap (λ (bits : List Bool). bit_at bits l) (raw_state-zero c faults vectors) ∙ sym (ap (λ (bits : List Bool). bit_at bits l) (raw_state-zero c [] vectors))
  state_same vectors (suc t) l latch at none =
      taken faults vectors t l latch at ∙ trace_from vectors t (state_same vectors t) latch.from inside (unreached_back latch.to latch.from reads none)
      ∙ sym (taken [] vectors t l latch at)
    where
      inside : IsNet c latch.from
      inside = All-contains (λ (m : Latch). IsNet c m.from) c.latches latch sound.sources
          (l, slice_get_within c.latches l latch at, get_or_from_slice_get c.latches l latch latch at)

      driver : driver_at c latch.to.0 ≡ FromLatch l
      driver = get_or_from_slice_get c.drivers latch.to.0 (FromLatch l) (Input 0) (sound.latches l latch at)

      reads : Contains (reads_of c (driver_at c latch.to.0)) latch.from
      reads = subst (λ (d : Driver). Contains (reads_of c d) latch.from) (sym driver)
          (subst (λ o. Contains (option_map_or (λ (m : Latch). m.from ∷ []) o []) latch.from) (sym at) (0, omega arith, refl))

  -- WHAT NO FAULT CAN CHANGE is as in the golden run
  pub unreached : (vectors : List (List Bool)) (t : ℕ) (net : NetId) → IsNet c net → Unreached net → trace c faults vectors t net.0 ≡ trace c [] vectors t net.0
  unreached vectors t net within none = trace_from vectors t (state_same vectors t) net within none
