-- Runs of one cycle: whatever pairs the latches start with and the inputs have, some runs of the cycle have them.
use Rattle.std.proofs.Common.{◌≡◌, ◌≢◌, inl, inr, ℕ, zero, suc, ◌+◌, ◌<◌, ◌≤◌, Bool, true, false, List, [], ◌∷◌, Some, length, map, get_or, refl, ap, ap₂, sym, subst, ◌∙◌, arith}
use Rattle.std.specs.Prelude.{◌==◌, All, Contains, if◌then◌else◌}
use Rattle.std.specs.List.{list_any, range_with_len, slice_get}
use Rattle.std.proofs.lemmas.Bool.{cases_eq, eq-eqb, ne_eqb}
use Rattle.std.proofs.lemmas.List.FromFn.{get_or-map-range_with_len}
use Rattle.std.proofs.lemmas.Option.{get_or_from_slice_get, slice_get-get_or, slice_get_within}
use Rattle.fm_base.specs.Lists.{same_bit}
use Rattle.fm_base.proofs.Tests.{same_bit_true}
use Rattle.circuit.proofs.ValuesAgain.{value_again}
use Rattle.circuit.specs.Circuit.{Circuit}
use Rattle.circuit.specs.Effects.{affected, forced, is_pulse_on}
use Rattle.circuit.specs.Order.{IsOrder, net_at}
use Rattle.circuit.specs.Sound.{IsNetOf, IsNetlist}
use Rattle.circuit.specs.Value.{Cycle, cycle_of, driven, driver_at, net_value, table_gives}
use Rattle.circuit.specs.declared.parts.Driver.{Driver}
use Rattle.circuit.specs.declared.parts.Driver.TheVariants.{Input, Table as FromTable, Latch as FromLatch}
use Rattle.circuit.specs.declared.parts.Fault.{Fault}
use Rattle.circuit.specs.declared.parts.Fault.TheVariants.{Stuck}
use Rattle.circuit.specs.declared.parts.Latch.{Latch}
use Rattle.circuit.specs.declared.parts.NetId.{NetId}
use Rattle.coverage_claim.specs.Claim.{Claim}
use Rattle.coverage_claim.specs.Region.{Region, may_show}
use Rattle.coverage_claim.specs.Rules.{Sets}
use Rattle.coverage_claim.specs.Stretch.{AreSo, Values, held_at}
use Rattle.coverage_claim.specs.declared.parts.Site.{Site}
use Rattle.coverage_claim.specs.declared.parts.Site.TheVariants.{Intact, Free, Only}
use Rattle.pair_sets.specs.Choice.{set_at}
use Rattle.pair_sets.specs.Pairs.{has}
use Rattle.pair_sets.specs.declared.pairs.PairSet.{PairSet}
use Rattle.region_search.specs.BeginSteps.{latch_of}
use Rattle.region_search.specs.Settled.{PassesAlone}
use Rattle.claim_search.specs.LeadIn.{IsCycle, lead_cycle}
use Rattle.claim_search.specs.Window.{driven_starts, starts_of}
use Rattle.claim_search.proofs.Starting.{starts_are}

-- ---- the nets that a region holds at a value, as faults

abbrev pub with_stuck : ℕ → Site → List Fault → List Fault
with_stuck n (Only value) faults = Stuck (record { 0 = n }) value ∷ faults
with_stuck n _ faults = faults

abbrev pub stuck_below : Region → ℕ → List Fault
stuck_below region zero = []
stuck_below region (suc n) = with_stuck n (region n) (stuck_below region n)

other_stuck : (site : Site) (m net : ℕ) (own : Bool) (faults : List Fault) → m ≢ net → forced (with_stuck m site faults) net own ≡ forced faults net own
other_stuck Intact m net own faults apart = refl
other_stuck Free m net own faults apart = refl
other_stuck (Only value) m net own faults apart = rw (ne_eqb m net apart) refl

-- nets from the bound on aren't held
none_past : (region : Region) (n net : ℕ) (own : Bool) → n ≤ net → forced (stuck_below region n) net own ≡ own
none_past region zero net own le = refl
none_past region (suc m) net own le = other_stuck (region m) m net own (stuck_below region m) (λ same. absurd (omega (arith, same, le))) ∙ none_past region m net own (omega (arith, le))

own_shows : (site : Site) (m : ℕ) (own : Bool) (faults : List Fault) → forced faults m own ≡ own → may_show site own (forced (with_stuck m site faults) m own) ≡ true
own_shows Intact m own faults none = rw none (same_self own)
  where
    same_self : (b : Bool) → same_bit b b ≡ true
    same_self true = refl
    same_self false = refl
own_shows Free m own faults none = refl
own_shows (Only value) m own faults none = rw (eq-eqb m m refl) (same_self value)
  where
    same_self : (b : Bool) → same_bit b b ≡ true
    same_self true = refl
    same_self false = refl

-- a net shows what its site allows
shows_own : (region : Region) (n net : ℕ) (own : Bool) → net < n → may_show (region net) own (forced (stuck_below region n) net own) ≡ true
shows_own region zero net own lt = absurd (omega (arith, lt))
shows_own region (suc m) net own lt = elim (cases_eq m net) as (λ _. may_show (region net) own (forced (with_stuck m (region m) (stuck_below region m)) net own) ≡ true) [
  | inl same ↦ subst (λ k. may_show (region k) own (forced (with_stuck m (region m) (stuck_below region m)) k own) ≡ true) same
      (own_shows (region m) m own (stuck_below region m) (none_past region m m own (omega arith)))
  | inr apart ↦ ap (may_show (region net) own) (other_stuck (region m) m net own (stuck_below region m) apart) ∙ shows_own region m net own (omega (arith, lt, apart))
]

kept_one : (site : Site) (m net : ℕ) (b y : Bool) (faults : List Fault) → (m ≡ net → may_show site b y ≡ true) → forced faults net y ≡ y → forced (with_stuck m site faults) net y ≡ y
kept_one Intact m net b y faults may before = before
kept_one Free m net b y faults may before = before
kept_one (Only value) m net b y faults may before = elim (cases_eq m net) as (λ _. forced (Stuck (record { 0 = m }) value ∷ faults) net y ≡ y) [
  | inl same ↦ rw (eq-eqb m net same) (same_bit_true value y (may same))
  | inr apart ↦ rw (ne_eqb m net apart) before
]

-- and a value that it may show it keeps
kept : (region : Region) (n net : ℕ) (b y : Bool) → may_show (region net) b y ≡ true → forced (stuck_below region n) net y ≡ y
kept region zero net b y may = refl
kept region (suc m) net b y may =
    kept_one (region m) m net b y (stuck_below region m) (λ same. subst (λ k. may_show (region k) b y ≡ true) (sym same) may) (kept region m net b y may)

no_pulse_with : (net : ℕ) (m : ℕ) (site : Site) (faults : List Fault) → list_any (is_pulse_on net 0) faults ≡ false → list_any (is_pulse_on net 0) (with_stuck m site faults) ≡ false
no_pulse_with net m Intact faults none = none
no_pulse_with net m Free faults none = none
no_pulse_with net m (Only value) faults none = none

no_pulse : (region : Region) (n net : ℕ) → list_any (is_pulse_on net 0) (stuck_below region n) ≡ false
no_pulse region zero net = refl
no_pulse region (suc m) net = no_pulse_with net m (region m) (stuck_below region m) (no_pulse region m net)

affected_is : (region : Region) (n net : ℕ) (own : Bool) → affected (stuck_below region n) 0 net own ≡ forced (stuck_below region n) net own
affected_is region n net own = rw (no_pulse region n net) refl

-- ---- one cycle

-- each latch and input has this value
abbrev with_leaves : Circuit → List Fault → (ℕ → Bool) → Cycle
with_leaves c faults leaf = cycle_of c faults 0 (map (λ l. leaf (latch_of c.latches l).to.0) (range_with_len 0 (length c.latches))) (map (λ k. leaf (net_at c.inputs k).0) (range_with_len 0 (length c.inputs)))

module _ (c : Circuit) (order : List NetId) (sound : IsNetlist c) (ordered : IsOrder c order) (faults : List Fault) (leaf : ℕ → Bool) where
  table_value_is : (net k : ℕ) → net < length c.drivers → driver_at c net ≡ FromTable k
      → net_value (with_leaves c faults leaf) net ≡ affected faults 0 net (table_gives c (net_value (with_leaves c faults leaf)) k)
  table_value_is net k lt driver =
      value_again (with_leaves c faults leaf) order sound ordered net lt
      ∙ ap (λ (d : Driver). affected faults 0 net (driven (with_leaves c faults leaf).state (with_leaves c faults leaf).inputs (table_gives c (net_value (with_leaves c faults leaf))) d)) driver

  input_value_is : (net k : ℕ) → net < length c.drivers → driver_at c net ≡ Input k → slice_get c.inputs k ≡ Some (record { 0 = net })
      → net_value (with_leaves c faults leaf) net ≡ affected faults 0 net (leaf net)
  input_value_is net k lt driver at =
      value_again (with_leaves c faults leaf) order sound ordered net lt
      ∙ ap (λ (d : Driver). affected faults 0 net (driven (with_leaves c faults leaf).state (with_leaves c faults leaf).inputs (table_gives c (net_value (with_leaves c faults leaf))) d)) driver
      ∙ ap (affected faults 0 net) (get_or-map-range_with_len (λ j. leaf (net_at c.inputs j).0) 0 (length c.inputs) k k false (slice_get_within c.inputs k (record { 0 = net }) at) (omega arith)
      ∙ ap (λ (n : NetId). leaf n.0) (get_or_from_slice_get c.inputs k (record { 0 = net }) (record { 0 = 0 }) at))

  latch_value_is : (l : ℕ) (latch : Latch) → slice_get c.latches l ≡ Some latch
      → net_value (with_leaves c faults leaf) latch.to.0 ≡ affected faults 0 latch.to.0 (leaf latch.to.0)
  latch_value_is l latch at =
      let driver = sound.latches l latch at in
      value_again (with_leaves c faults leaf) order sound ordered latch.to.0 (slice_get_within c.drivers latch.to.0 (FromLatch l) driver)
      ∙ ap (λ (d : Driver). affected faults 0 latch.to.0 (driven (with_leaves c faults leaf).state (with_leaves c faults leaf).inputs (table_gives c (net_value (with_leaves c faults leaf))) d))
      (get_or_from_slice_get c.drivers latch.to.0 (FromLatch l) (Input 0) driver)
      ∙ ap (affected faults 0 latch.to.0) (get_or-map-range_with_len (λ j. leaf (latch_of c.latches j).to.0) 0 (length c.latches) l l false (slice_get_within c.latches l latch at) (omega arith)
      ∙ ap (λ (each : Latch). leaf each.to.0) (get_or_from_slice_get c.latches l latch (record { from = record { 0 = 0 }; to = record { 0 = 0 }; start = false }) at))

-- ---- and that of a pair with which a latch starts

-- a value at one net, and others elsewhere
abbrev with_value : ℕ → Bool → (ℕ → Bool) → ℕ → Bool
with_value own x others net = if net == own then x else others net

value_there : (own : ℕ) (x : Bool) (others : ℕ → Bool) (net : ℕ) → net ≡ own → with_value own x others net ≡ x
value_there own x others net same = rw (eq-eqb net own same) refl

value_other : (own : ℕ) (x : Bool) (others : ℕ → Bool) (net : ℕ) → net ≢ own → with_value own x others net ≡ others net
value_other own x others net apart = rw (ne_eqb net own apart) refl

module _ (claim : Claim) (order : List NetId) (sound : IsNetlist claim.circuit) (ordered : IsOrder claim.circuit order)
    (held : All (λ h. Contains claim.circuit.inputs h.net) claim.held) (cycle : ℕ) (starts : List PairSet) (q : Sets) (is : IsCycle claim cycle starts q)
    (shown_by : (l : ℕ) (latch : Latch) → slice_get claim.circuit.latches l ≡ Some latch → (a b : Bool) → has (set_at starts l) a b ≡ true
    → (v : Bool) × (may_show (claim.region latch.to.0) v b ≡ true))
    (l : ℕ) (latch : Latch) (at : slice_get claim.circuit.latches l ≡ Some latch) (x y : Bool) (starts_so : has (set_at starts l) x y ≡ true) where
  abbrev c : Circuit
  c = claim.circuit

  abbrev some_at : (net : ℕ) → (a : Bool) × (b : Bool) × (q 0 net a b ≡ true)
  some_at net = is.some 0 net (omega arith)

  abbrev golden_leaf : ℕ → Bool
  golden_leaf = with_value latch.to.0 x (λ net. (some_at net).0)

  abbrev faulty_leaf : ℕ → Bool
  faulty_leaf = with_value latch.to.0 y (λ net. (some_at net).1)

  abbrev stuck : List Fault
  stuck = stuck_below claim.region (length c.drivers)

  abbrev golden : Values
  golden frame = net_value (with_leaves c [] golden_leaf)

  abbrev faulty : Values
  faulty frame = net_value (with_leaves c stuck faulty_leaf)

  alone : (net : ℕ) → PassesAlone (lead_cycle claim cycle starts) 0 net (some_at net).0 (some_at net).1
  alone net = is.nothing.alone 0 net (some_at net).0 (some_at net).1 (omega arith) (some_at net).2

  -- a value that its site allows a net keeps
  stays : (net : ℕ) (b v : Bool) → may_show (claim.region net) b v ≡ true → affected stuck 0 net v ≡ v
  stays net b v may = affected_is claim.region (length c.drivers) net v ∙ kept claim.region (length c.drivers) net b v may

  abbrev HasPair : ℕ → Bool → Bool → Type 0
  HasPair net a b = (golden 0 net ≡ a) × (faulty 0 net ≡ b)

  input_pair : (net k : ℕ) → net < length c.drivers → driver_at c net ≡ Input k → slice_get c.inputs k ≡ Some (record { 0 = net }) → HasPair net (some_at net).0 (some_at net).1
  input_pair net k lt driver input =
      let apart : net ≢ latch.to.0 = λ same. (
      let other : driver_at c latch.to.0 ≡ FromLatch l = get_or_from_slice_get c.drivers latch.to.0 (FromLatch l) (Input 0) (sound.latches l latch at) in
      let both : Input k ≡ FromLatch l = sym driver ∙ ap (driver_at c) same ∙ other in
      cc) in (
        input_value_is c order sound ordered [] golden_leaf net k lt driver input ∙ value_other latch.to.0 x (λ n. (some_at n).0) net apart,
        input_value_is c order sound ordered stuck faulty_leaf net k lt driver input
            ∙ ap (affected stuck 0 net) (value_other latch.to.0 y (λ n. (some_at n).1) net apart)
            ∙ stays net (some_at net).0 (some_at net).1 ((alone net).input k (record { 0 = net }) lt driver refl),
      )

  own_pair : (j : ℕ) (other : Latch) → slice_get c.latches j ≡ Some other → other.to.0 ≡ latch.to.0 → HasPair other.to.0 x y
  own_pair j other there same =
      let may = shown_by l latch at x y starts_so in (
        latch_value_is c order sound ordered [] golden_leaf j other there ∙ value_there latch.to.0 x (λ n. (some_at n).0) other.to.0 same,
        latch_value_is c order sound ordered stuck faulty_leaf j other there
            ∙ ap (affected stuck 0 other.to.0) (value_there latch.to.0 y (λ n. (some_at n).1) other.to.0 same)
            ∙ stays other.to.0 may.0 y (ap (λ n. may_show (claim.region n) may.0 y) same ∙ may.1),
      )

  other_starts : (j : ℕ) (other : Latch) → slice_get c.latches j ≡ Some other → starts_of c starts other (some_at other.to.0).0 (some_at other.to.0).1 ≡ true
  other_starts j other there = (alone other.to.0).start j other refl there refl

  other_pair : (j : ℕ) (other : Latch) → slice_get c.latches j ≡ Some other → other.to.0 ≢ latch.to.0 → HasPair other.to.0 (some_at other.to.0).0 (some_at other.to.0).1
  other_pair j other there apart =
      let a = (some_at other.to.0).0 in
      let b = (some_at other.to.0).1 in
      let may = shown_by j other there a b (sym (starts_are c starts j other sound there a b) ∙ other_starts j other there) in (
        latch_value_is c order sound ordered [] golden_leaf j other there ∙ value_other latch.to.0 x (λ n. (some_at n).0) other.to.0 apart,
        latch_value_is c order sound ordered stuck faulty_leaf j other there
            ∙ ap (affected stuck 0 other.to.0) (value_other latch.to.0 y (λ n. (some_at n).1) other.to.0 apart)
            ∙ stays other.to.0 may.0 b may.1,
      )

  input_of : (net : NetId) → Contains c.inputs net → (k : ℕ) × (slice_get c.inputs k ≡ Some net)
  input_of net there = (there.0, slice_get-get_or c.inputs there.0 net there.1 ∙ ap Some there.2)

  are_so : AreSo (lead_cycle claim cycle starts) golden faulty
  are_so = record {
    tables = λ frame k net le within driver. (
      table_value_is c order sound ordered [] golden_leaf net.0 k within driver,
      ap (may_show (claim.region net.0) (table_gives c (faulty frame) k))
          (table_value_is c order sound ordered stuck faulty_leaf net.0 k within driver ∙ affected_is claim.region (length c.drivers) net.0 (table_gives c (faulty frame) k))
          ∙ shows_own claim.region (length c.drivers) net.0 (table_gives c (faulty frame) k) within,
    );
    latches = λ frame j other lt _. absurd (omega (arith, lt));
    inputs = λ frame k net le within driver. (
        let pair = input_pair net.0 k within driver (subst (IsNetOf c net.0) driver (sound.nets net.0 within)) in
        ap₂ (may_show (claim.region net.0)) pair.0 pair.1 ∙ (alone net.0).input k net within driver refl);
    held = λ frame le i d lt value given. (
        let net = (get_or claim.held i d).net in
        let input = input_of net (held i d lt) in
        let driver = sound.inputs input.0 net input.1 in
        let pair = input_pair net.0 input.0 (slice_get_within c.drivers net.0 (Input input.0) driver) (get_or_from_slice_get c.drivers net.0 (Input input.0) (Input 0) driver) input.1 in
        let now : frame ≡ 0 = omega (arith, le) in
        pair.0 ∙ (alone net.0).held i d lt refl value (ap (λ f. held_at (get_or claim.held i d) (cycle + f)) (sym now) ∙ given));
    silent = λ frame le i d lt. absurd (omega (arith, lt));
    start = λ j other there. elim (cases_eq other.to.0 latch.to.0) as (λ _. starts_of c starts other (golden 0 other.to.0) (faulty 0 other.to.0) ≡ true) [
      | inl same ↦ (
          let pair = own_pair j other there same in
          ap₂ (starts_of c starts other) pair.0 pair.1
          ∙ ap (λ n. driven_starts starts (driver_at c n) x y) same
          ∙ starts_are c starts l latch sound at x y ∙ starts_so)
      | inr apart ↦ (let pair = other_pair j other there apart in ap₂ (starts_of c starts other) pair.0 pair.1 ∙ other_starts j other there)
    ];
  }

  -- EACH PAIR WITH WHICH A LATCH STARTS is one of some runs, so it isn't lost
  pub all_start : q 0 latch.to.0 x y ≡ true
  all_start =
      let pair = own_pair l latch at refl in
      ap₂ (q 0 latch.to.0) (sym pair.0) (sym pair.1) ∙ is.holds golden faulty are_so (λ i n le. refl) 0 latch.to.0 (omega arith)
