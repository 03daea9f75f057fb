-- A simulation by events. Source: event-driven logic simulation, where a table is evaluated where one of its inputs has an event.
use Rattle.std.specs.Prelude.{◌≡◌, ◌≢◌, ℕ, ◌+◌, ◌/◌, ◌<◌, ◌==◌, Bool, true, false, List, length, if◌then◌else◌}
use Rattle.circuit.specs.declared.parts.Driver.TheVariants.{Table as FromTable}
use Rattle.circuit.specs.Circuit.{Circuit}
use Rattle.circuit.specs.Order.{net_at}
use Rattle.circuit.specs.Value.{driven, driver_at, table_gives}
use Rattle.fanout.specs.Readers.{IsReadAt, Ordered}
use Rattle.lane_words.specs.Gates.{IsProgram}
use Rattle.place_set.specs.Places.{has, value_in}
use Rattle.golden_run.specs.declared.values.Values.{Values}
use Rattle.golden_run.specs.declared.wiring.Wiring.{Wiring}

-- the netlist and the order of its tables
abbrev pub ordered_of : Wiring → Ordered
ordered_of wiring = record { circuit = wiring.netlist.now; order = wiring.order.now }

-- gates and readers are of this netlist in this order
pub record IsWiring (wiring : Wiring) : Type 0 where
  pub program : IsProgram wiring.netlist.now wiring.order.now wiring.gates.now
  pub fanout : wiring.fanout.now ≡ record { circuit = wiring.netlist.now; order = wiring.order.now }

-- no table drives the net
abbrev pub IsSource : Circuit → ℕ → Type 0
IsSource c n = (k : ℕ) → driver_at c n ≡ FromTable k → ⊥

-- the net of the table at a place has what the table gives
abbrev pub IsSettled : Ordered → List ℕ → ℕ → Type 0
IsSettled o row p =
    (state inputs : List Bool)
    → driven state inputs (table_gives o.circuit (value_in row)) (driver_at o.circuit (net_at o.order p).0) ≡ value_in row (net_at o.order p).0

-- a bit for each net, and a mark for each table
pub record HasSizes (o : Ordered) (values : Values) : Type 0 where
  pub row : length values.row.items ≡ length o.circuit.drivers / 64 + 1
  pub marks : values.marks.bound ≡ length o.order

-- where not all tables count as marked, each that isn't marked is settled
pub record AreValuesOf (o : Ordered) (values : Values) : Type 0 where
  pub sizes : HasSizes o values
  pub settled : (p : ℕ) → p < length o.order → values.all ≡ false → has values.marks p ≡ false → IsSettled o values.row.items p

-- an event: the net has this value now, and where it had another one, the tables that read it are marked, or all count as marked
pub record IsChanged (o : Ordered) (net : ℕ) (value : Bool) (old new : Values) : Type 0 where
  pub sizes : HasSizes o new
  pub all : new.all ≡ old.all
  pub values : (n : ℕ) → value_in new.row.items n ≡ (if n == net then value else value_in old.row.items n)
  pub kept : (p : ℕ) → has old.marks p ≡ true → has new.marks p ≡ true
  pub marked : (p : ℕ) → p < length o.order → IsReadAt o net p → old.all ≡ false → has new.marks p ≡ false → value_in old.row.items net ≡ value

-- the table at a place is settled, those before it are as they were, and no other net has changed
pub record IsEvaluated (o : Ordered) (place : ℕ) (old new : List ℕ) : Type 0 where
  pub own : IsSettled o new place
  pub before : (q : ℕ) → q < place → IsSettled o old q → IsSettled o new q
  pub others : (n : ℕ) → n ≢ (net_at o.order place).0 → value_in new n ≡ value_in old n
