-- A cone: nets out of which no path through tables and latches leads.
use Rattle.std.specs.Prelude.{◌≡◌, ℕ, ◌<◌, ◌≤◌, ◌-◌, ◌&&◌, Bool, true, false, List, length, nat_lt, slice_index, slice_index_or, if◌then◌else◌}
use Rattle.circuit.specs.Circuit.{Circuit}
use Rattle.circuit.specs.declared.parts.Driver.{Driver}
use Rattle.circuit.specs.declared.parts.Driver.TheVariants.{Input, Table as FromTable, Latch as FromLatch}
use Rattle.circuit.specs.Order.{net_at}
use Rattle.circuit.specs.Value.{driver_at}
use Rattle.fanout.specs.Readers.{IsReadAt, Ordered}
use Rattle.lane_words.specs.Gates.{IsGate, latch_at}
use Rattle.place_set.specs.Places.{Places, has}
use Rattle.differential_kernel.specs.declared.cone.Cone.{Cone}
use Rattle.differential_kernel.specs.declared.cone.ConeTable.{ConeTable}
use Rattle.differential_kernel.specs.declared.force.Forces.{Forces}
use Rattle.differential_kernel.specs.declared.latches.LatchDifferences.{LatchDifferences}
use Rattle.differential_kernel.specs.declared.nets.NetDifferences.{NetDifferences}
use Rattle.differential_kernel.specs.Differences.{Grows, IsEmptySet}
use Rattle.differential_kernel.specs.Places.{AreThose}

-- the net that is driven at a place: by a table of the order, or behind them all by a latch
abbrev pub driven_at : Ordered → ℕ → ℕ
driven_at o place = if nat_lt place (length o.order) then (net_at o.order place).0 else (latch_at o.circuit.latches (place - length o.order)).to.0

-- each place that reads the net drives one of the set
abbrev pub LeadsInto : Ordered → Places → ℕ → Type 0
LeadsInto o nets n = (place : ℕ) → IsReadAt o n place → has nets (driven_at o place) ≡ true

-- no path leads out of the set, unless from nets that are left to be looked at
abbrev pub IsClosedBut : Ordered → Places → Places → Type 0
IsClosedBut o left nets = (n : ℕ) → has nets n ≡ true → has left n ≡ false → LeadsInto o nets n

-- no path leads out of the set
abbrev pub IsClosed : Ordered → Places → Type 0
IsClosed o nets = (n : ℕ) → has nets n ≡ true → LeadsInto o nets n

-- nets are put into a set, and those that weren't there are left to be looked at
pub record Spreads (nets left more waiting : Places) : Type 0 where
  pub bound : more.bound ≡ nets.bound
  pub left_bound : waiting.bound ≡ left.bound
  pub kept : Grows nets more
  pub left_kept : Grows left waiting
  pub own : (n : ℕ) → has more n ≡ true → has waiting n ≡ false → has nets n ≡ true

-- the latches that drive nets of the cone, as a set and as a list
pub record AreEnds (c : Circuit) (cone : Cone) : Type 0 where
  pub bound : cone.latches.bound ≡ length c.latches
  pub latches : (l : ℕ) → l < length c.latches → has cone.latches l ≡ has cone.nets (latch_at c.latches l).to.0
  pub room : length cone.ends.items ≡ length c.latches
  pub listed : AreThose (has cone.latches) (length c.latches) cone.ends.items cone.end_count

-- a cycle that is run by a cone needn't read the net's golden value: outside of the cone no place reads it that drives one of the
-- cone's nets, and in it no input drives it
pub record IsUnread (o : Ordered) (nets : Places) (n : ℕ) : Type 0 where
  pub outside : has nets n ≡ false → (place : ℕ) → IsReadAt o n place → has nets (driven_at o place) ≡ false
  pub inside : has nets n ≡ true → (i : ℕ) → driver_at o.circuit n ≡ Input i → ⊥

-- the nets whose golden values are read, as a set and as a list
pub record AreReads (o : Ordered) (cone : Cone) : Type 0 where
  pub bound : cone.read.bound ≡ length o.circuit.drivers
  pub found : (n : ℕ) → n < length o.circuit.drivers → has cone.read n ≡ false → IsUnread o cone.nets n
  pub room : length cone.reads.items ≡ length o.circuit.drivers
  pub listed : AreThose (has cone.read) (length o.circuit.drivers) cone.reads.items cone.read_count

-- no table drives it
abbrev pub is_source : Driver → Bool
is_source (Input i) = true
is_source (FromTable i) = false
is_source (FromLatch l) = true

-- the nets that were named are in the cone, and of these the ones that no table drives are in a set and in a list
pub record AreSources (o : Ordered) (cone : Cone) : Type 0 where
  pub named : cone.named.bound ≡ length o.circuit.drivers
  pub inside : Grows cone.named cone.nets
  pub bound : cone.source.bound ≡ length o.circuit.drivers
  pub each : (n : ℕ) → n < length o.circuit.drivers → has cone.source n ≡ (has cone.named n && is_source (driver_at o.circuit n))
  pub room : length cone.sources.items ≡ length o.circuit.drivers
  pub listed : AreThose (has cone.source) (length o.circuit.drivers) cone.sources.items cone.source_count

-- the table of a cone in a list of them
abbrev pub cone_table : List ConeTable → ℕ → ConeTable
cone_table tables i = slice_index_or tables i (record { gate = record { to = 0; a = 0; b = 0; op = 0 }; forced = false })

-- the gate of a place, and whether its net was named
pub record IsConeTable (o : Ordered) (named : Places) (place : ℕ) (table : ConeTable) : Type 0 where
  pub gate : IsGate o.circuit table.gate
  pub to : table.gate.to ≡ (net_at o.order place).0
  pub forced : table.forced ≡ has named table.gate.to

-- the tables of the places that are listed, one after the other
pub record AreTablesIn (o : Ordered) (cone : Cone) : Type 0 where
  pub room : length cone.gates.items ≡ length o.order
  pub each : (i : ℕ) → i < cone.table_count → IsConeTable o cone.named (slice_index cone.tables.items i) (cone_table cone.gates.items i)

-- the table has this operation on at most two inputs, and its net wasn't named
pub record IsPlain (op : ℕ) (table : ConeTable) : Type 0 where
  pub narrow : op < 16
  pub same : table.gate.op ≡ op
  pub free : table.forced ≡ false

-- all tables from one place up to another have this operation, and no force
abbrev pub IsStretch : List ConeTable → ℕ → ℕ → ℕ → Type 0
IsStretch tables op from to = (i : ℕ) → from ≤ i → i < to → IsPlain op (cone_table tables i)

-- of so many tables the place where the stretch ends that begins with each; its own place where it begins none
pub record AreStretches (tables : List ConeTable) (count : ℕ) (ends : List ℕ) : Type 0 where
  pub least : (i : ℕ) → i < count → i ≤ slice_index ends i
  pub most : (i : ℕ) → i < count → slice_index ends i ≤ count
  pub each : (i : ℕ) → i < count → IsStretch tables (cone_table tables i).gate.op i (slice_index ends i)

-- so of the tables of a cone
pub record AreStretchesOf (tables : ℕ) (cone : Cone) : Type 0 where
  pub room : length cone.stretches.items ≡ tables
  pub ends : AreStretches cone.gates.items cone.table_count cone.stretches.items

-- a cone of a circuit, with the places of the tables that drive its nets, and the latches
pub record IsConeOf (o : Ordered) (cone : Cone) : Type 0 where
  pub nets : cone.nets.bound ≡ length o.circuit.drivers
  pub left : cone.left.bound ≡ length o.circuit.drivers
  pub closed : IsClosed o cone.nets
  pub room : length cone.tables.items ≡ length o.order
  pub tables : AreThose (λ place. has cone.nets (net_at o.order place).0) (length o.order) cone.tables.items cone.table_count
  pub ends : AreEnds o.circuit cone
  pub reads : AreReads o cone
  pub sources : AreSources o cone
  pub gates : AreTablesIn o cone
  pub stretches : AreStretchesOf (length o.order) cone

-- what is forced was named when the cone was made, and what differs before a cycle is in the cone
pub record Holds {W : Type 0} (cone : Cone) (forces : Forces W) (latches : LatchDifferences W) (nets : NetDifferences W) : Type 0 where
  pub named : Grows forces.named cone.named
  pub touched : Grows nets.touched cone.nets
  pub live : Grows latches.live cone.latches

-- a cone without nets, where there are so many nets, tables and latches
pub record IsNewCone (nets tables latches : ℕ) (cone : Cone) : Type 0 where
  pub bound : cone.nets.bound ≡ nets
  pub left_bound : cone.left.bound ≡ nets
  pub none : IsEmptySet cone.nets
  pub room : length cone.tables.items ≡ tables
  pub count : cone.table_count ≡ 0
  pub end_bound : cone.latches.bound ≡ latches
  pub end_none : IsEmptySet cone.latches
  pub end_room : length cone.ends.items ≡ latches
  pub end_count : cone.end_count ≡ 0
  pub read_bound : cone.read.bound ≡ nets
  pub read_none : IsEmptySet cone.read
  pub read_room : length cone.reads.items ≡ nets
  pub read_count : cone.read_count ≡ 0
  pub named_bound : cone.named.bound ≡ nets
  pub named_none : IsEmptySet cone.named
  pub source_bound : cone.source.bound ≡ nets
  pub source_none : IsEmptySet cone.source
  pub source_room : length cone.sources.items ≡ nets
  pub source_count : cone.source_count ≡ 0
  pub gate_room : length cone.gates.items ≡ tables
  pub stretch_room : length cone.stretches.items ≡ tables
