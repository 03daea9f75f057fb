-- Places that aren't marked, and one that is evaluated, in one lane.
use Rattle.std.proofs.Common.{◌≡◌, ◌≢◌, ℕ, zero, suc, ◌+◌, ◌-◌, ◌<◌, ◌≤◌, Bool, false, List, [], ◌∷◌, length, map, take, get_or, refl, ap, sym, subst, ◌∙◌, arith}
use Rattle.std.specs.List.{Contains}
use Rattle.std.proofs.lemmas.List.{get_or-append_right, get_or-map, get_or_append_left, length-map}
use Rattle.circuit.specs.declared.parts.Driver.TheVariants.{Table as FromTable}
use Rattle.circuit.specs.declared.parts.Latch.{Latch}
use Rattle.circuit.specs.declared.parts.NetId.{NetId}
use Rattle.circuit.specs.Circuit.{Circuit}
use Rattle.circuit.specs.Effects.{affected}
use Rattle.circuit.specs.Order.{IsOrder, net_at}
use Rattle.circuit.specs.Sound.{IsNetOf, IsNetlist}
use Rattle.circuit.specs.Value.{Cycle, bit_at, driven, driver_at, net_value, table_at, table_gives}
use Rattle.circuit.proofs.Walks.{driven_same}
use Rattle.fanout.specs.Readers.{IsReadAt, Ordered, all_reads, driver_reads}
use Rattle.golden_difference.proofs.Exclusive.{either_back}
use Rattle.golden_difference.proofs.Sources.{golden_again}
use Rattle.golden_difference.proofs.Walked.{Walked, quiet_place, walked_more}
use Rattle.lane_words.specs.Bits.{either}
use Rattle.lane_words.specs.Gates.{latch_at, plane}
use Rattle.place_set.specs.Places.{Places, has, value_in}
use Rattle.lane_words.specs.declared.force.Force.{Force}
use Rattle.differential_kernel.specs.Differences.{AreMarked, IsSame, read_in}
use Rattle.lane_words.specs.Forces.{force_value, AreForces}
use Rattle.differential_kernel.specs.Walk.{IsAhead, IsGivenAt, IsPair}

-- a table's place reads what the table reads
pub table_read : (o : Ordered) (j k : ℕ) (m : NetId) → j < length o.order → driver_at o.circuit (net_at o.order j).0 ≡ FromTable k
    → Contains (table_at o.circuit.tables k).ins m → IsReadAt o m.0 j
table_read o j k m lt driver there =
    subst (λ (nets : List NetId). Contains nets (record { 0 = m.0 })) (sym reads) there
  where
    reads : get_or (all_reads o) j [] ≡ (table_at o.circuit.tables k).ins
    reads =
        get_or_append_left (map (λ (net : NetId). driver_reads o.circuit (driver_at o.circuit net.0)) o.order) (map (λ (latch : Latch). latch.from ∷ []) o.circuit.latches) [] j
        (omega (arith, length-map o.order (λ (net : NetId). driver_reads o.circuit (driver_at o.circuit net.0)), lt))
        ∙ get_or-map (λ (net : NetId). driver_reads o.circuit (driver_at o.circuit net.0)) o.order j (record { 0 = 0 }) [] lt
        ∙ ap (driver_reads o.circuit) driver

-- a latch's place reads the net that the latch takes
pub latch_read : (o : Ordered) (l : ℕ) → l < length o.circuit.latches → IsReadAt o (latch_at o.circuit.latches l).from.0 (length o.order + l)
latch_read o l lt =
    subst (λ (nets : List NetId). Contains nets (latch_at o.circuit.latches l).from) (sym reads) (0, omega arith, refl)
  where
    size : length (map (λ (net : NetId). driver_reads o.circuit (driver_at o.circuit net.0)) o.order) ≡ length o.order
    size = length-map o.order (λ (net : NetId). driver_reads o.circuit (driver_at o.circuit net.0))

    reads : get_or (all_reads o) (length o.order + l) [] ≡ (latch_at o.circuit.latches l).from ∷ []
    reads =
        let back : length o.order + l - length o.order ≡ l = omega arith in
        get_or-append_right (map (λ (net : NetId). driver_reads o.circuit (driver_at o.circuit net.0)) o.order) (map (λ (latch : Latch). latch.from ∷ []) o.circuit.latches)
        (length o.order) (length o.order + l) [] size (omega arith)
        ∙ ap (λ i. get_or (map (λ (latch : Latch). latch.from ∷ []) o.circuit.latches) i []) back
        ∙ get_or-map (λ (latch : Latch). latch.from ∷ []) o.circuit.latches l (record { from = record { 0 = 0 }; to = record { 0 = 0 }; start = false }) [] lt

-- a latch whose place isn't marked takes a net that doesn't differ
pub quiet_latch : {W : Type 0} (lanes : ℕ) (bit : W → ℕ → Bool) (o : Ordered) (words : List W) (marks : Places) (l : ℕ)
    → AreMarked lanes bit o (length o.order) words marks → l < length o.circuit.latches → has marks (length o.order + l) ≡ false
    → IsSame lanes bit words (latch_at o.circuit.latches l).from.0
quiet_latch lanes bit o words marks l marked lt none = marked (length o.order + l) (latch_at o.circuit.latches l).from.0 (omega arith) (latch_read o l lt) none

-- a force, where there is one
pub some_force : {W : Type 0} (forces : List (Force W)) (n : ℕ) → n < length forces → Force W
some_force [] n lt = absurd (omega arith)
some_force (force ∷ forces) n lt = force

module _ {W : Type 0} (lanes : ℕ) (bit : W → ℕ → Bool) (k : ℕ) (lt_k : k < lanes) (c : Circuit) (order : List NetId) (sound : IsNetlist c) (ordered : IsOrder c order)
    (row : List ℕ) (forces : List (Force W)) (size : length forces ≡ length c.drivers)
    (x golden : Cycle) (pair : IsPair c row x golden) (are : AreForces bit k forces x) where
  abbrev ordered_of : Ordered
  ordered_of = record { circuit = c; order = order }

  -- A PLACE THAT ISN'T EVALUATED
  -- it reads nothing that differs, and its net differs in what its force makes of its golden value
  pub quiet_by : (differs : ℕ → Bool) (j : ℕ) → j < length order → ((m : ℕ) → IsReadAt ordered_of m j → differs m ≡ false)
      → ((d : Force W) → differs (net_at order j).0 ≡ either (force_value bit k (get_or forces (net_at order j).0 d) (value_in row (net_at order j).0)) (value_in row (net_at order j).0))
      → Walked x (λ n. either (value_in row n) (differs n)) (take j order) j → Walked x (λ n. either (value_in row n) (differs n)) (take (j + 1) order) (j + 1)
  quiet_by differs j lt reads own walked =
      let back : c ≡ x.circuit = sym pair.circuit in
      let inside : (net_at order j).0 < length forces = omega (arith, ordered.nets j (record { 0 = 0 }) lt, size) in
      let d : Force W = some_force forces (net_at order j).0 inside in
      walked_more x (λ n. either (value_in row n) (differs n)) (λ n. either (value_in row n) (differs n)) order j
      (subst IsNetlist back sound) (subst (λ (m : Circuit). IsOrder m order) back ordered) lt
      (λ m within other. refl)
      (quiet_place x golden (value_in row) differs order j (subst IsNetlist back sound) (subst (λ (m : Circuit). IsOrder m order) back ordered) lt
      (pair.golden_circuit ∙ back) pair.none (λ m within. pair.values m (subst (λ (e : Circuit). m < length e.drivers) pair.circuit within))
      (λ i m driver there. reads m.0
      (table_read ordered_of j i m lt (ap (λ (e : Circuit). driver_at e (net_at order j).0) back ∙ driver) (subst (λ (e : Circuit). Contains (table_at e.tables i).ins m) pair.circuit there)))
      (own d ∙ ap (λ b. either b (value_in row (net_at order j).0)) (are (net_at order j).0 d (value_in row (net_at order j).0) inside)))
      walked

  -- one that isn't marked
  quiet : (words : List W) (marks : Places) (from j : ℕ) → from ≤ j → j < length order → AreMarked lanes bit ordered_of from words marks
      → IsAhead lanes bit order row forces from words marks → has marks j ≡ false
      → Walked x (read_in bit k row words) (take j order) j → Walked x (read_in bit k row words) (take (j + 1) order) (j + 1)
  quiet words marks from j le lt marked ahead none walked =
      quiet_by (bit_at (plane bit k words)) j lt (λ m reads. marked j m le reads none k lt_k) (λ d. ahead k j d lt_k le lt none) walked

  -- places that aren't marked, one after the other
  pub quiet_run : (words : List W) (marks : Places) (from n : ℕ) → from + n ≤ length order → AreMarked lanes bit ordered_of from words marks
      → IsAhead lanes bit order row forces from words marks → ((q : ℕ) → from ≤ q → q < from + n → has marks q ≡ false)
      → Walked x (read_in bit k row words) (take from order) from → Walked x (read_in bit k row words) (take (from + n) order) (from + n)
  quiet_run words marks from zero le marked ahead none walked =
      let same : from ≡ from + 0 = omega arith in
      subst (λ j. Walked x (read_in bit k row words) (take j order) j) same walked
  quiet_run words marks from (suc n) le marked ahead none walked =
      let same : (from + n) + 1 ≡ from + suc n = omega arith in
      subst (λ j. Walked x (read_in bit k row words) (take j order) j) same
      (quiet words marks from (from + n) (omega arith) (omega arith) marked ahead (none (from + n) (omega arith) (omega arith))
      (quiet_run words marks from n (omega arith) marked ahead (λ q low less. none q low (omega arith)) walked))

  -- the golden value of a place's net is what its table gives over golden values
  pub given : (j : ℕ) → j < length order → IsGivenAt c row (net_at order j).0
  given j lt state inputs =
      ap (driven state inputs gives) table.1
      ∙ sym (ap (driven golden.state golden.inputs gives) table.1)
      ∙ sym
      (driven_same c golden.state golden.inputs (net_value golden) (value_in row) (driver_at c n)
      (λ i e at d within.
      let fits = subst (IsNetOf c n) e (sound.nets n net) in
      sym (pair.values (get_or (table_at c.tables i).ins at d).0 ((sound.tables i fits).ins at d within))))
      ∙ sym (ap (λ (m : Circuit). driven golden.state golden.inputs (table_gives m (net_value golden)) (driver_at m n)) pair.golden_circuit)
      ∙ sym
      (golden_again golden order (subst IsNetlist back sound) (subst (λ (m : Circuit). IsOrder m order) back ordered) pair.none n
      (subst (λ (m : Circuit). n < length m.drivers) back net))
      ∙ sym (pair.values n net)
    where
      n : ℕ
      n = (net_at order j).0

      net : n < length c.drivers
      net = ordered.nets j (record { 0 = 0 }) lt

      back : c ≡ golden.circuit
      back = sym pair.golden_circuit

      table : (i : ℕ) × (driver_at c n ≡ FromTable i)
      table = ordered.tables j lt

      gives : ℕ → Bool
      gives = table_gives c (value_in row)

  -- A PLACE THAT IS EVALUATED
  pub evaluated_by : (d : Force W) (before after : ℕ → Bool) (j : ℕ) → j < length order
      → ((state inputs : List Bool) → after (net_at order j).0
      ≡ force_value bit k (get_or forces (net_at order j).0 d) (driven state inputs (table_gives c before) (driver_at c (net_at order j).0)))
      → ((n : ℕ) → n ≢ (net_at order j).0 → after n ≡ before n)
      → Walked x before (take j order) j → Walked x after (take (j + 1) order) (j + 1)
  evaluated_by d before after j lt value others walked =
      let back : c ≡ x.circuit = sym pair.circuit in
      walked_more x before after order j (subst IsNetlist back sound) (subst (λ (m : Circuit). IsOrder m order) back ordered) lt
      (λ m within other. others m other)
      (value x.state x.inputs
      ∙ are n d (driven x.state x.inputs (table_gives c before) (driver_at c n)) (omega (arith, ordered.nets j (record { 0 = 0 }) lt, size))
      ∙ ap (λ (m : Circuit). affected x.faults x.number n (driven x.state x.inputs (table_gives m before) (driver_at m n))) back)
      walked
    where
      n : ℕ
      n = (net_at order j).0

  -- one of which the result is turned into what its net differs in
  pub evaluated : (d : Force W) (words next : List W) (j : ℕ) → j < length order
      → ((state inputs : List Bool) → bit_at (plane bit k next) (net_at order j).0
      ≡ either (force_value bit k (get_or forces (net_at order j).0 d) (driven state inputs (table_gives c (read_in bit k row words)) (driver_at c (net_at order j).0))) (value_in row (net_at order j).0))
      → ((n : ℕ) → n ≢ (net_at order j).0 → bit_at (plane bit k next) n ≡ bit_at (plane bit k words) n)
      → Walked x (read_in bit k row words) (take j order) j → Walked x (read_in bit k row next) (take (j + 1) order) (j + 1)
  evaluated d words next j lt value others walked =
      evaluated_by d (read_in bit k row words) (read_in bit k row next) j lt
      (λ state inputs.
      ap (either (value_in row (net_at order j).0)) (value state inputs)
      ∙ either_back (value_in row (net_at order j).0)
      (force_value bit k (get_or forces (net_at order j).0 d) (driven state inputs (table_gives c (read_in bit k row words)) (driver_at c (net_at order j).0))))
      (λ n other. ap (either (value_in row n)) (others n other))
      walked
