-- A walk over the tables where a net's value is read as its golden value and what differs. A place whose table reads nothing that
-- differs has its golden value, but for what faults make of it, without being evaluated.
use Rattle.std.proofs.Common.{◌≡◌, ◌≢◌, inl, inr, ℕ, ◌+◌, ◌<◌, Bool, false, List, [], length, map, set, take, get_or, refl, ap, sym, subst, ◌∙◌, arith}
use Rattle.std.specs.List.{All, Contains, range_with_len}
use Rattle.std.proofs.lemmas.Bool.{cases_eq}
use Rattle.std.proofs.lemmas.List.{ext_get_or, get_or-set_same, get_or-set_other, length-set}
use Rattle.std.proofs.lemmas.List.Elements.{Contains-get_or}
use Rattle.std.proofs.lemmas.List.FromFn.{length-map-range_with_len, get_or-map-range_with_len}
use Rattle.circuit.specs.declared.parts.Driver.TheVariants.{Table as FromTable}
use Rattle.circuit.specs.declared.parts.NetId.{NetId}
use Rattle.circuit.specs.Circuit.{Circuit}
use Rattle.circuit.specs.Effects.{affected}
use Rattle.circuit.specs.Order.{IsOrder, net_at}
use Rattle.circuit.specs.Sound.{IsNet, IsNetOf, IsNetlist}
use Rattle.circuit.specs.Table.{table_value}
use Rattle.circuit.specs.Value.{Cycle, bit_at, driven, driver_at, net_value, shown, table_at, table_gives}
use Rattle.circuit.proofs.Walks.{Holds, driven_same, holds_end, holds_sources, holds_step, map_same}
use Rattle.lane_words.specs.Bits.{either}
use Rattle.golden_difference.proofs.Exclusive.{either_back, either_none}
use Rattle.circuit.proofs.ValuesAgain.{value_again}

-- the values of all nets as a list
abbrev pub listed : Circuit → (ℕ → Bool) → List Bool
listed c read = map read (range_with_len 0 (length c.drivers))

pub at_listed : (c : Circuit) (read : ℕ → Bool) (m : ℕ) → m < length c.drivers → bit_at (listed c read) m ≡ read m
at_listed c read m lt = get_or-map-range_with_len read 0 (length c.drivers) m m false lt (omega arith)

-- the nets of these tables, and those that no table drives, are read with their values
abbrev pub Walked : Cycle → (ℕ → Bool) → List NetId → ℕ → Type 0
Walked y read done j = Holds y (listed y.circuit read) done j

-- before the first table the nets that no table drives are read with their values
pub walked_none : (y : Cycle) (read : ℕ → Bool)
    → ((m : NetId) → IsNet y.circuit m → ((k : ℕ) → driver_at y.circuit m.0 ≡ FromTable k → ⊥) → read m.0 ≡ shown y (λ k. false) m.0)
    → Walked y read [] 0
walked_none y read first =
    holds_sources y (listed y.circuit read) (length-map-range_with_len read 0 (length y.circuit.drivers))
    (λ m net none. at_listed y.circuit read m.0 net ∙ first m net none)

-- ONE TABLE MORE
pub walked_more : (y : Cycle) (before after : ℕ → Bool) (order : List NetId) (j : ℕ)
    → IsNetlist y.circuit → IsOrder y.circuit order → j < length order
    → ((m : ℕ) → m < length y.circuit.drivers → m ≢ (net_at order j).0 → after m ≡ before m)
    → after (net_at order j).0 ≡ shown y (table_gives y.circuit before) (net_at order j).0
    → Walked y before (take j order) j → Walked y after (take (j + 1) order) (j + 1)
walked_more y before after order j sound ordered lt others own walked =
    subst (λ vs. Holds y vs (take (j + 1) order) (j + 1)) same (holds_step y (listed y.circuit before) order j gives sound ordered lt refl walked)
  where
    n : ℕ
    n = (net_at order j).0

    net : n < length y.circuit.drivers
    net = ordered.nets j (record { 0 = 0 }) lt

    gives : Bool
    gives = driven y.state y.inputs (table_gives y.circuit (bit_at (listed y.circuit before))) (driver_at y.circuit n)

    -- what the table gives over the list it gives over the values
    gives_is : gives ≡ driven y.state y.inputs (table_gives y.circuit before) (driver_at y.circuit n)
    gives_is =
        driven_same y.circuit y.state y.inputs (bit_at (listed y.circuit before)) before (driver_at y.circuit n)
        (λ k e i d within.
        let fits = subst (IsNetOf y.circuit n) e (sound.nets n net) in
        at_listed y.circuit before (get_or (table_at y.circuit.tables k).ins i d).0 ((sound.tables k fits).ins i d within))

    value : Bool
    value = affected y.faults y.number n gives

    value_is : value ≡ after n
    value_is = ap (affected y.faults y.number n) gives_is ∙ sym own

    long : length (set (listed y.circuit before) n value) ≡ length y.circuit.drivers
    long = length-set (listed y.circuit before) n value ∙ length-map-range_with_len before 0 (length y.circuit.drivers)

    at_each : (i : ℕ) → i < length y.circuit.drivers → get_or (set (listed y.circuit before) n value) i false ≡ get_or (listed y.circuit after) i false
    at_each i within =
        elim (cases_eq i n) [
          | inl here ↦
              ap (λ k. get_or (set (listed y.circuit before) n value) k false) here
              ∙ get_or-set_same (listed y.circuit before) n value false (omega (arith, length-map-range_with_len before 0 (length y.circuit.drivers), net))
              ∙ value_is ∙ ap after (sym here) ∙ sym (at_listed y.circuit after i within)
          | inr other ↦
              get_or-set_other (listed y.circuit before) n i value false other
              ∙ at_listed y.circuit before i within ∙ sym (others i within other) ∙ sym (at_listed y.circuit after i within)
        ]

    same : set (listed y.circuit before) n value ≡ listed y.circuit after
    same =
        ext_get_or false (set (listed y.circuit before) n value) (listed y.circuit after) (long ∙ sym (length-map-range_with_len after 0 (length y.circuit.drivers)))
        (λ i within. at_each i (omega (arith, within, long)))

-- behind the last table all nets are
pub walked_all : (y : Cycle) (read : ℕ → Bool) (order : List NetId) → IsOrder y.circuit order → Walked y read order (length order)
    → (m : ℕ) → m < length y.circuit.drivers → read m ≡ net_value y m
walked_all y read order ordered walked m net = sym (at_listed y.circuit read m net) ∙ holds_end y (listed y.circuit read) order ordered walked m net

-- A PLACE THAT NEEDN'T BE EVALUATED, since its table reads nothing that differs: its net differs in what faults make of its golden
-- value. `g` are the golden values, and the value of a net is its golden one and what it differs in
pub quiet_place : (x golden : Cycle) (g differs : ℕ → Bool) (order : List NetId) (j : ℕ)
    → IsNetlist x.circuit → IsOrder x.circuit order → j < length order
    → golden.circuit ≡ x.circuit → golden.faults ≡ [] → ((m : ℕ) → m < length x.circuit.drivers → g m ≡ net_value golden m)
    → ((k : ℕ) (m : NetId) → driver_at x.circuit (net_at order j).0 ≡ FromTable k → Contains (table_at x.circuit.tables k).ins m → differs m.0 ≡ false)
    → differs (net_at order j).0 ≡ either (affected x.faults x.number (net_at order j).0 (g (net_at order j).0)) (g (net_at order j).0)
    → either (g (net_at order j).0) (differs (net_at order j).0) ≡ shown x (table_gives x.circuit (λ m. either (g m) (differs m))) (net_at order j).0
quiet_place x golden g differs order j sound ordered lt circuit none values reads own =
    ap (either (g n)) own ∙ either_back (g n) (affected x.faults x.number n (g n)) ∙ sym (ap (affected x.faults x.number n) gives)
  where
    n : ℕ
    n = (net_at order j).0

    net : n < length x.circuit.drivers
    net = ordered.nets j (record { 0 = 0 }) lt

    table : (k : ℕ) × (driver_at x.circuit n ≡ FromTable k)
    table = ordered.tables j lt

    fits : table.0 < length x.circuit.tables
    fits = subst (IsNetOf x.circuit n) table.1 (sound.nets n net)

    each : All (λ (m : NetId). either (g m.0) (differs m.0) ≡ net_value golden m.0) (table_at x.circuit.tables table.0).ins
    each i d within =
        let m : NetId = get_or (table_at x.circuit.tables table.0).ins i d in
        ap (either (g m.0)) (reads table.0 m table.1 (Contains-get_or (table_at x.circuit.tables table.0).ins i d within)) ∙ either_none (g m.0)
        ∙ values m.0 ((sound.tables table.0 fits).ins i d within)

    golden_is : net_value golden n ≡ table_gives x.circuit (net_value golden) table.0
    golden_is =
        value_again golden order (subst IsNetlist (sym circuit) sound) (subst (λ (c : Circuit). IsOrder c order) (sym circuit) ordered) n
        (subst (λ (c : Circuit). n < length c.drivers) (sym circuit) net)
        ∙ ap (λ faults. affected faults golden.number n (driven golden.state golden.inputs (table_gives golden.circuit (net_value golden)) (driver_at golden.circuit n))) none
        ∙ ap (λ (c : Circuit). driven golden.state golden.inputs (table_gives c (net_value golden)) (driver_at c n)) circuit
        ∙ ap (driven golden.state golden.inputs (table_gives x.circuit (net_value golden))) table.1

    gives : driven x.state x.inputs (table_gives x.circuit (λ m. either (g m) (differs m))) (driver_at x.circuit n) ≡ g n
    gives =
        ap (driven x.state x.inputs (table_gives x.circuit (λ m. either (g m) (differs m)))) table.1
        ∙ ap (table_value (table_at x.circuit.tables table.0))
        (map_same (λ (m : NetId). either (g m.0) (differs m.0)) (λ (m : NetId). net_value golden m.0) (table_at x.circuit.tables table.0).ins each)
        ∙ sym golden_is ∙ sym (values n net)
