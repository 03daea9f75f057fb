-- The parts of a netlist, by the numbers of names.
use Rattle.std.specs.Prelude.{Bool, true, List, [], ◌∷◌, Option, Some, None, if◌then◌else◌, map, slice_index_or, slice_set}
use Rattle.circuit.specs.declared.parts.Latch.{Latch}
use Rattle.circuit.specs.declared.parts.NetId.{NetId}
use Rattle.circuit.specs.declared.parts.Table.{Table}
use Rattle.fm_base.specs.Names.{Name}
use Rattle.blif_model.specs.Models.{rows_below}
use Rattle.blif_model.specs.Net.{lits_of, table_plane}
use Rattle.blif_model.specs.Walk.{Act, takes}
use Rattle.blif_model.specs.WalkSteps.{latch_net, outputs_at, table_net}
use Rattle.blif_flatten.specs.declared.flat.NameId.{NameId}
use Rattle.blif_flatten.specs.declared.flat.NumberedAct.{NumberedAct}
use Rattle.blif_flatten.specs.declared.flat.NumberedAct.TheVariants as acts
use Rattle.blif_flatten.specs.declared.flat.NumberedTable.{NumberedTable}
use Rattle.blif_flatten.specs.declared.flat.NumberedLatch.{NumberedLatch}
use Rattle.blif_reader.specs.declared.parts.Part.{Part}
use Rattle.blif_reader.specs.declared.parts.Part.TheVariants.{Inputs, Outputs, TableNets, LatchNets}
use Rattle.blif_reader.specs.Numbers.{net_of_name}

-- the names on an `.inputs` line of the main model
abbrev pub inputs_at : Act → List Name
inputs_at (takes names) = names
inputs_at _ = []

-- the names that a line has as such a part
abbrev pub names_of_part : Part → Act → List Name
names_of_part Inputs act = inputs_at act
names_of_part Outputs act = outputs_at act
names_of_part TableNets act = table_net act
names_of_part LatchNets act = latch_net act

abbrev pub net_table : List NetId → NumberedTable → Table
net_table numbers t = record {
  ins = map (net_of_name numbers) t.ins;
  rows = map lits_of (rows_below t.below.now);
  on = table_plane (rows_below t.below.now);
}

abbrev pub net_latch : List NetId → NumberedLatch → Latch
net_latch numbers l = record { from = net_of_name numbers l.from; to = net_of_name numbers l.to; start = l.start }

-- the table of a line, if it is one
abbrev pub table_in : List NetId → NumberedAct → Option Table
table_in numbers (acts.Table t) = Some (net_table numbers t)
table_in numbers _ = None

-- the latch of a line, if it is one
abbrev pub latch_in : List NetId → NumberedAct → Option Latch
latch_in numbers (acts.Latch l) = Some (net_latch numbers l)
latch_in numbers _ = None

-- the numbers that aren't marked, each once
abbrev pub first_ids : List Bool → List NameId → List NameId
first_ids seen [] = []
first_ids seen (id ∷ ids) =
    if slice_index_or seen id.0 true then first_ids (slice_set seen id.0 true) ids else id ∷ first_ids (slice_set seen id.0 true) ids
