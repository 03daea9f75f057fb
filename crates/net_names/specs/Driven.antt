-- How often a net is driven: by inputs, by tables and by latches, which are told by the names of their nets.
use Rattle.std.specs.Prelude.{◌≡◌, ℕ, ◌+◌, ◌≤◌, true, false, if◌then◌else◌, List, [], ◌∷◌, ◌++◌, map, length, Some, bytes_eq}
use Rattle.std.specs.List.{slice_get}
use Rattle.circuit.specs.declared.parts.Driver.{Driver}
use Rattle.circuit.specs.declared.parts.Driver.TheVariants.{Input, Table as FromTable, Latch as FromLatch}
use Rattle.circuit.specs.declared.parts.Latch.{Latch}
use Rattle.circuit.specs.declared.parts.Table.{Table}
use Rattle.circuit.specs.Circuit.{Circuit}
use Rattle.fm_base.specs.Names.{Name, is_one_of, has_repeat}
use Rattle.net_names.specs.Nets.{driver_of, net_id, with_drivers}

-- how often a name stands in a list
abbrev pub name_count : Name → List Name → ℕ
name_count name [] = 0
name_count name (x ∷ xs) = (if bytes_eq name x then 1 else 0) + name_count name xs

-- the nets that inputs, tables and latches drive, beside their drivers
abbrev pub all_drivers : (inputs tables latches : List Name) → List (Name × Driver)
all_drivers inputs tables latches = with_drivers Input inputs ++ with_drivers FromTable tables ++ with_drivers FromLatch latches

-- how often a net is driven
abbrev pub drives : (inputs tables latches : List Name) → Name → ℕ
drives inputs tables latches name = name_count name inputs + name_count name tables + name_count name latches

-- the name stands at the place that its driver says
abbrev pub IsDrivenBy : (inputs tables latches : List Name) → Name → Driver → Type 0
IsDrivenBy inputs tables latches name (Input k) = slice_get inputs k ≡ Some name
IsDrivenBy inputs tables latches name (FromTable k) = slice_get tables k ≡ Some name
IsDrivenBy inputs tables latches name (FromLatch k) = slice_get latches k ≡ Some name

-- the nets have different names, each of them is driven once, and nothing else is driven
pub record IsDrivenOnce (nets inputs tables latches : List Name) : Type 0 where
  pub apart : has_repeat nets ≡ false
  pub most : (name : Name) → drives inputs tables latches name ≤ 1
  pub least : (name : Name) → is_one_of nets name ≡ true → 1 ≤ drives inputs tables latches name
  pub net : (name : Name) → 1 ≤ drives inputs tables latches name → is_one_of nets name ≡ true

-- there are as many tables as nets that tables drive, and latches stand in the order of the nets that they drive
pub record AreAligned (nets table_nets latch_nets : List Name) (tables : List Table) (latches : List Latch) : Type 0 where
  pub counted : length tables ≡ length table_nets
  pub ordered : map (λ latch. latch.to) latches ≡ map (net_id nets) latch_nets

-- the netlist of named nets: the inputs, the nets of tables and of latches, the outputs, the tables and the latches
abbrev pub circuit_with : (nets inputs table_nets latch_nets outputs : List Name) → List Table → List Latch → Circuit
circuit_with nets inputs table_nets latch_nets outputs tables latches = record {
  names = nets;
  drivers = map (driver_of (all_drivers inputs table_nets latch_nets)) nets;
  tables = tables;
  latches = latches;
  inputs = map (net_id nets) inputs;
  outputs = map (net_id nets) outputs;
}
