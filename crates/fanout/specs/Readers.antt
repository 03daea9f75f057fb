-- Who reads a net: its fanout. Tables count by their places in an order of evaluation, and latches behind all tables.
use Rattle.std.specs.Prelude.{ℕ, List, [], ◌∷◌, ◌++◌, map, slice_index_or, Contains}
use Rattle.circuit.specs.declared.parts.Driver.{Driver}
use Rattle.circuit.specs.declared.parts.Driver.TheVariants.{Input, Table as FromTable, Latch as FromLatch}
use Rattle.circuit.specs.declared.parts.NetId.{NetId}
use Rattle.circuit.specs.Circuit.{Circuit}
use Rattle.circuit.specs.Value.{driver_at, table_at}

-- a circuit, and an order of its tables
pub record Ordered : Type 0 where
  pub circuit : Circuit
  pub order : List NetId

-- the nets that the table reads, where a table drives
abbrev pub driver_reads : Circuit → Driver → List NetId
driver_reads c (Input k) = []
driver_reads c (FromTable k) = (table_at c.tables k).ins
driver_reads c (FromLatch k) = []

-- the nets that are read at each place: by one table after the other in the order, and then by one latch after the other
abbrev pub all_reads : Ordered → List (List NetId)
all_reads o =
    map (λ (net : NetId). driver_reads o.circuit (driver_at o.circuit net.0)) o.order
    ++ map (λ latch. latch.from ∷ []) o.circuit.latches

-- the net is read at this place
abbrev pub IsReadAt : Ordered → ℕ → ℕ → Type 0
IsReadAt o net place = Contains (slice_index_or (all_reads o) place []) (record { 0 = net })
