-- Tables that are settled: where one net changes, and where a table is evaluated.
use Rattle.std.proofs.Common.{◌≡◌, ◌≢◌, inl, inr, ℕ, ◌<◌, ◌==◌, Bool, true, false, cond, List, [], ◌∷◌, length, map, take, get_or, refl, ap, sym, subst, ◌∙◌, arith}
use Rattle.std.specs.List.{Contains}
use Rattle.std.proofs.lemmas.Bool.{cases_eq, cases_lt, eq-eqb, false_from_ne_true, ne_eqb, true≢false}
use Rattle.std.proofs.lemmas.List.{get_or-map, get_or-take, get_or_append_left, get_or_default, length-map, length-take-le}
use Rattle.std.proofs.lemmas.List.Elements.{Contains-get_or}
use Rattle.circuit.specs.declared.parts.Driver.TheVariants.{Table as FromTable}
use Rattle.circuit.specs.declared.parts.Latch.{Latch}
use Rattle.circuit.specs.declared.parts.NetId.{NetId}
use Rattle.circuit.specs.Order.{IsOrder, IsReady, net_at}
use Rattle.circuit.specs.Sound.{IsNetlist}
use Rattle.circuit.specs.Value.{driven, driver_at, table_at, table_gives}
use Rattle.circuit.proofs.Walks.{driven_same}
use Rattle.fanout.specs.Readers.{IsReadAt, Ordered, all_reads, driver_reads}
use Rattle.golden_difference.proofs.Apart.{order_apart}
use Rattle.place_set.specs.Places.{Places, has, value_in}
use Rattle.golden_run.specs.declared.values.Values.{Values}
use Rattle.golden_run.specs.Events.{AreValuesOf, IsChanged, IsEvaluated, IsSettled, IsSource}

-- ---- one value more

pub at_here : (old new : List ℕ) (net : ℕ) (value : Bool) → ((n : ℕ) → value_in new n ≡ cond (n == net) value (value_in old n)) → value_in new net ≡ value
at_here old new net value is = is net ∙ ap (λ b. cond b value (value_in old net)) (eq-eqb net net refl)

pub at_other : (old new : List ℕ) (net : ℕ) (value : Bool) (n : ℕ) → ((m : ℕ) → value_in new m ≡ cond (m == net) value (value_in old m))
    → n ≢ net → value_in new n ≡ value_in old n
at_other old new net value n is other = is n ∙ ap (λ b. cond b value (value_in old n)) (ne_eqb n net other)

none_before : (old new : Places) (p : ℕ) → ((q : ℕ) → has old q ≡ true → has new q ≡ true) → has new p ≡ false → has old p ≡ false
none_before old new p kept none = false_from_ne_true (has old p) (λ there. true≢false (sym (kept p there) ∙ none))

-- ---- what a table reads

-- at the place of a table the nets are read that the table reads
table_reads : (o : Ordered) (q k : ℕ) → q < length o.order → driver_at o.circuit (net_at o.order q).0 ≡ FromTable k
    → get_or (all_reads o) q [] ≡ (table_at o.circuit.tables k).ins
table_reads o q k lt driver =
    get_or_append_left (map (λ (net : NetId). driver_reads o.circuit (driver_at o.circuit net.0)) o.order) (map (λ (latch : Latch). latch.from ∷ []) o.circuit.latches) [] q
    (omega (arith, length-map o.order (λ (net : NetId). driver_reads o.circuit (driver_at o.circuit net.0)), lt))
    ∙ get_or-map (λ (net : NetId). driver_reads o.circuit (driver_at o.circuit net.0)) o.order q (record { 0 = 0 }) [] lt
    ∙ ap (driver_reads o.circuit) driver

-- a table gives the same where the nets that it reads have the same
gives_same : (o : Ordered) (q : ℕ) (old new : List ℕ) (state inputs : List Bool) → q < length o.order
    → ((m : NetId) → IsReadAt o m.0 q → value_in new m.0 ≡ value_in old m.0)
    → driven state inputs (table_gives o.circuit (value_in new)) (driver_at o.circuit (net_at o.order q).0)
    ≡ driven state inputs (table_gives o.circuit (value_in old)) (driver_at o.circuit (net_at o.order q).0)
gives_same o q old new state inputs lt same =
    driven_same o.circuit state inputs (value_in new) (value_in old) (driver_at o.circuit (net_at o.order q).0)
    (λ k e i d within.
    let m : NetId = get_or (table_at o.circuit.tables k).ins i d in
    same m (subst (λ (nets : List NetId). Contains nets (record { 0 = m.0 })) (sym (table_reads o q k lt e)) (Contains-get_or (table_at o.circuit.tables k).ins i d within)))

-- what a table reads is the same, where the net that has changed isn't read or has what it had
read_same : (o : Ordered) (q net : ℕ) (value : Bool) (old new : List ℕ) → ((n : ℕ) → value_in new n ≡ cond (n == net) value (value_in old n))
    → (IsReadAt o net q → value_in old net ≡ value) → (m : NetId) → IsReadAt o m.0 q → value_in new m.0 ≡ value_in old m.0
read_same o q net value old new is same m reads =
    elim (cases_eq m.0 net) [
      | inl here ↦
          ap (value_in new) here ∙ at_here old new net value is ∙ sym (same (subst (λ n. IsReadAt o n q) here reads)) ∙ ap (value_in old) (sym here)
      | inr other ↦ at_other old new net value m.0 is other
    ]

-- a table that is settled stays so
settled_still : (o : Ordered) (q net : ℕ) (value : Bool) (old new : List ℕ) → q < length o.order
    → ((n : ℕ) → value_in new n ≡ cond (n == net) value (value_in old n)) → (net_at o.order q).0 ≢ net
    → (IsReadAt o net q → value_in old net ≡ value) → IsSettled o old q → IsSettled o new q
settled_still o q net value old new lt is other same settled state inputs =
    gives_same o q old new state inputs lt (read_same o q net value old new is same)
    ∙ settled state inputs ∙ sym (at_other old new net value (net_at o.order q).0 is other)

module _ (o : Ordered) (sound : IsNetlist o.circuit) (ordered : IsOrder o.circuit o.order) where
  -- the net of a table is read only behind it
  read_behind : (p q : ℕ) → p < length o.order → q < length o.order → IsReadAt o (net_at o.order p).0 q → p < q
  read_behind p q lt_p lt_q reads =
      let n : NetId = net_at o.order p in
      let table = ordered.tables q lt_q in
      let there : Contains (table_at o.circuit.tables table.0).ins n =
      subst (λ (nets : List NetId). Contains nets (record { 0 = n.0 })) (table_reads o q table.0 lt_q table.1) reads in
      let ready : IsReady o.circuit (take q o.order) n = subst (IsReady o.circuit (take q o.order)) there.2 (ordered.after q table.0 lt_q table.1 there.0 n there.1) in
      let own = ordered.tables p lt_p in
      let before : Contains (take q o.order) n = ready own.0 own.1 in
      let size : length (take q o.order) ≡ q = length-take-le q o.order (omega (arith, lt_q)) in
      let less : before.0 < q = omega (arith, before.1, size) in
      let at : net_at o.order before.0 ≡ n =
      get_or_default o.order before.0 (record { 0 = 0 }) n (omega (arith, less, lt_q)) ∙ sym (get_or-take q o.order before.0 n less) ∙ before.2 in
      elim (cases_lt p q) [
        | inl behind ↦ behind
        | inr most ↦
            absurd (order_apart o.circuit o.order sound ordered before.0 p (omega (arith, less, lt_q)) lt_p (omega (arith, less, most)) (ap (λ (m : NetId). m.0) at))
      ]

  -- no table has the net of a source
  pub source_apart : (p net : ℕ) → p < length o.order → IsSource o.circuit net → (net_at o.order p).0 ≢ net
  source_apart p net lt source same =
      let table = ordered.tables p lt in source table.0 (subst (λ n. driver_at o.circuit n ≡ FromTable table.0) same table.1)

  -- A SOURCE CHANGES
  pub source_changed : (net : ℕ) (value : Bool) (old new : Values) → AreValuesOf o old → IsSource o.circuit net → IsChanged o net value old new → AreValuesOf o new
  source_changed net value old new are source changed = record {
    sizes = changed.sizes;
    settled = λ p lt few none.
        let some : old.all ≡ false = sym changed.all ∙ few in
        settled_still o p net value old.row.items new.row.items lt changed.values (source_apart p net lt source) (λ reads. changed.marked p lt reads some none)
        (are.settled p lt some (none_before old.marks new.marks p changed.kept none));
  }

  module _ (place : ℕ) (value : Bool) (old new : List ℕ) (lt : place < length o.order)
      (given : (state inputs : List Bool) → value ≡ driven state inputs (table_gives o.circuit (value_in old)) (driver_at o.circuit (net_at o.order place).0))
      (is : (n : ℕ) → value_in new n ≡ cond (n == (net_at o.order place).0) value (value_in old n)) where
    abbrev net : ℕ
    net = (net_at o.order place).0

    own : IsSettled o new place
    own state inputs =
        gives_same o place old new state inputs lt
        (read_same o place net value old new is (λ reads. let less = read_behind place place lt lt reads in absurd (omega (arith, less))))
        ∙ sym (given state inputs) ∙ sym (at_here old new net value is)

    -- A TABLE IS EVALUATED
    pub evaluated : IsEvaluated o place old new
    evaluated = record {
      own = own;
      before = λ q less settled.
          let within : q < length o.order = omega (arith, less, lt) in
          settled_still o q net value old new within is
          (order_apart o.circuit o.order sound ordered q place within lt (omega (arith, less)))
          (λ reads. let behind = read_behind place q lt within reads in absurd (omega (arith, behind, less))) settled;
      others = λ n other. at_other old new net value n is other;
    }

  -- and its mark is taken away
  pub values_evaluated : (place : ℕ) (value : Bool) (old new : Values) (marks : Places) → place < length o.order → AreValuesOf o old
      → ((p : ℕ) → has marks p ≡ cond (p == place) false (has old.marks p))
      → ((state inputs : List Bool) → value ≡ driven state inputs (table_gives o.circuit (value_in old.row.items)) (driver_at o.circuit (net_at o.order place).0))
      → IsChanged o (net_at o.order place).0 value (record { row = old.row; marks = marks; all = old.all }) new → AreValuesOf o new
  values_evaluated place value old new marks lt are taken given changed = record {
    sizes = changed.sizes;
    settled = λ p within few none.
        let some : old.all ≡ false = sym changed.all ∙ few in
        elim (cases_eq p place) [
          | inl same ↦
              subst (IsSettled o new.row.items) (sym same) (evaluated place value old.row.items new.row.items lt given changed.values).own
          | inr other ↦
              settled_still o p (net_at o.order place).0 value old.row.items new.row.items within changed.values
              (order_apart o.circuit o.order sound ordered p place within lt other)
              (λ reads. changed.marked p within reads some none)
              (are.settled p within some
              (sym (ap (λ b. cond b false (has old.marks p)) (ne_eqb p place other)) ∙ sym (taken p) ∙ none_before marks new.marks p changed.kept none))
        ];
  }
