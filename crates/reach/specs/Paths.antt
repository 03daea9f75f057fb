-- What a net and a fault can change. Source: the transitive fan-out of a net and the cone of influence of nets, in a network of tables
-- and latches as in SIS's BLIF.
use Rattle.std.specs.Prelude.{◌≡◌, ◌↔◌, ℕ, zero, suc, Bool, IsTrue, List, [], ◌∷◌, Contains, Some}
use Rattle.std.specs.List.{slice_get}
use Rattle.std.specs.Option.{option_map_or}
use Rattle.circuit.specs.declared.parts.Driver.{Driver}
use Rattle.circuit.specs.declared.parts.Driver.TheVariants.{Input, Table as FromTable, Latch as FromLatch}
use Rattle.circuit.specs.declared.parts.Fault.{Fault}
use Rattle.circuit.specs.declared.parts.Fault.TheVariants.{Stuck, Flip, Pulse}
use Rattle.circuit.specs.declared.parts.Latch.{Latch}
use Rattle.circuit.specs.declared.parts.NetId.{NetId}
use Rattle.circuit.specs.Circuit.{Circuit}
use Rattle.circuit.specs.Value.{bit_at, driver_at, table_at}

-- the nets that a driver reads: a table its inputs, and a latch the net that it takes
abbrev pub reads_of : Circuit → Driver → List NetId
reads_of c (Input k) = []
reads_of c (FromTable k) = (table_at c.tables k).ins
reads_of c (FromLatch k) = option_map_or (λ latch. latch.from ∷ []) (slice_get c.latches k) []

-- a path over so many tables and latches from one net to another
abbrev pub Path : Circuit → ℕ → NetId → NetId → Type 0
Path c zero net goal = net ≡ goal
Path c (suc n) net goal = (next : NetId) × Contains (reads_of c (driver_at c next.0)) net × Path c n next goal

-- there is a path
abbrev pub LeadsTo : Circuit → NetId → NetId → Type 0
LeadsTo c net goal = (n : ℕ) × Path c n net goal

-- there is one to some of these nets
abbrev pub LeadsToSome : Circuit → NetId → List NetId → Type 0
LeadsToSome c net goals = (goal : NetId) × Contains goals goal × LeadsTo c net goal

-- the fault is on this net, or it flips the latch of this net
abbrev pub ActsOn : Circuit → NetId → Fault → Type 0
ActsOn c net (Stuck n value) = n ≡ net
ActsOn c net (Flip l cycle) = (latch : Latch) × (slice_get c.latches l ≡ Some latch) × (latch.to ≡ net)
ActsOn c net (Pulse n cycle) = n ≡ net

-- the fault acts on a net that leads to this one
abbrev pub CanChange : Circuit → Fault → NetId → Type 0
CanChange c fault goal = (net : NetId) × ActsOn c net fault × LeadsTo c net goal

-- it acts on a net that leads to some of these
abbrev pub CanChangeSome : Circuit → Fault → List NetId → Type 0
CanChangeSome c fault goals = (net : NetId) × ActsOn c net fault × LeadsToSome c net goals

-- a mark for each net that leads to some of these, and for no other
abbrev pub IsCone : Circuit → List NetId → List Bool → Type 0
IsCone c goals marks = (net : NetId) → IsTrue (bit_at marks net.0) ↔ LeadsToSome c net goals
