-- The names of a sort that a line has.
use Rattle.std.specs.Prelude.{List, [], ◌∷◌, ◌++◌, flat_map}
use Rattle.std.specs.Option.{option_to_list}
use Rattle.fm_base.specs.Names.{Name}
use Rattle.blif_model.specs.Walk.{Act, takes, flat_table, flat_latch, Step, visited}
use Rattle.blif_model.specs.WalkSteps.{clocked, outputs_at, control_of, input_nets, read}
use Rattle.blif_flatten.specs.declared.flat.NameId.{NameId}
use Rattle.blif_flatten.specs.declared.sorts.Mentions.{Mentions}
use Rattle.blif_flatten.specs.declared.sorts.Sort.{Sort}
use Rattle.blif_flatten.specs.declared.sorts.Sort.TheVariants.{Visited, Clock, Input, Driven, Output, Read, Control}

-- what a line drives, inputs that are clock names too
abbrev pub drive_names : Act → List Name
drive_names (takes names) = names
drive_names (flat_table ins out rows) = out ∷ []
drive_names (flat_latch s) = s.to ∷ []
drive_names _ = []

-- the names of a sort that a line has
abbrev pub named : Sort → Act → List Name
named Visited act = visited act
named Clock act = clocked act
named Input act = input_nets act
named Driven act = drive_names act
named Output act = outputs_at act
named Read act = read act
named Control act = control_of act

-- those that the steps have
unfoldable pub names_by : Sort → List Step → List Name
names_by sort steps = flat_map (λ s. named sort s.act) steps

-- the numbers, from left to right
abbrev pub ids_of : Mentions → List NameId
ids_of m = m.list.now ++ option_to_list m.then ++ option_to_list m.last
