-- The names of a sort, and the first of them that passes a test.
use Rattle.std.specs.Prelude.{Bool, false, List, flat_map, slice_index_or}
use Rattle.fm_base.specs.Lists.{same_bit}
use Rattle.fm_base.specs.Names.{Name}
use Rattle.blif_model.specs.Walk.{Step, Visit}
use Rattle.blif_model.specs.WalkSteps.{names_at}
use Rattle.blif_flatten.specs.declared.flat.NameId.{NameId}
use Rattle.blif_flatten.specs.declared.sorts.Sort.{Sort}
use Rattle.blif_flatten.specs.Flat.{name_at}
use Rattle.blif_flatten.specs.Sorts.{named}
use Rattle.blif_reader.specs.declared.found.FoundName.{FoundName}

-- the names of a sort, each at its line
abbrev pub visits_by : Sort → List Step → List Visit
visits_by sort steps = flat_map (λ s. names_at s.line (named sort s.act)) steps

-- the answer to the test is the wanted one
abbrev pub passes : Bool → (Name → Bool) → Visit → Bool
passes wanted test visit = same_bit wanted (test visit.name)

-- the mark of a number is the wanted one
abbrev pub is_wanted : List Bool → Bool → NameId → Bool
is_wanted marks wanted id = same_bit wanted (slice_index_or marks id.0 false)

abbrev pub visit_of : List Name → FoundName → Visit
visit_of names found = record { name = name_at names found.name; line = found.line }
