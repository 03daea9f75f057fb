-- Nets in order of first appearance, each with what is known of it.
use Rattle.std.specs.Prelude.{ℕ, Bool, true, false, not, List, [], ◌∷◌, ◌++◌, fold, if◌then◌else◌, position, slice_index_or, slice_set, Option}
use Rattle.std.specs.Option.{option_map}
use Rattle.circuit.specs.declared.parts.NetId.{NetId}
use Rattle.fm_base.specs.Names.{Name, is_one_of}
use Rattle.net_names.specs.Nets.{net_id}
use Rattle.bench_reader.specs.declared.BenchFault.{BenchFault}
use Rattle.bench_reader.specs.declared.BenchKind.TheVariants.{Undriven}
use Rattle.bench_reader.specs.declared.nets.Mark.{Mark}
use Rattle.bench_reader.specs.LineFault.{at_line}

-- names, and a mark for each
pub record NetMarks : Type 0 where
  pub names : List Name
  pub marks : List Mark

abbrev pub no_nets : NetMarks
no_nets = record { names = []; marks = [] }

-- a net that a line names first
abbrev pub newly_named : ℕ → Mark
newly_named line = record { line = line; driven = false; output = false }

-- what is known of a net
abbrev pub net_mark : List Mark → NetId → Mark
net_mark marks net = slice_index_or marks net.0 (newly_named 0)

-- a line names a net
abbrev pub mention : ℕ → NetMarks → Name → NetMarks
mention line nets name =
    if is_one_of nets.names name then nets
    else record { names = nets.names ++ name ∷ []; marks = nets.marks ++ newly_named line ∷ [] }

-- a line names nets, from left to right
abbrev pub mention_all : ℕ → NetMarks → List Name → NetMarks
mention_all line nets names = fold (mention line) nets names

-- the numbers of the nets that it names
abbrev pub ids_from : ℕ → NetMarks → List Name → List NetId
ids_from line nets [] = []
ids_from line nets (name ∷ names) = net_id (mention line nets name).names name ∷ ids_from line (mention line nets name) names

-- a net is driven
abbrev pub is_driven : NetMarks → NetId → Bool
is_driven nets net = (net_mark nets.marks net).driven

abbrev pub with_driven : NetMarks → NetId → NetMarks
with_driven nets net = record { names = nets.names; marks = slice_set nets.marks net.0 (record (net_mark nets.marks net) { driven = true }) }

-- a net is an output
abbrev pub is_given : NetMarks → NetId → Bool
is_given nets net = (net_mark nets.marks net).output

abbrev pub with_given : NetMarks → NetId → NetMarks
with_given nets net = record { names = nets.names; marks = slice_set nets.marks net.0 (record (net_mark nets.marks net) { output = true }) }

-- the name at a place
abbrev pub name_in_place : List Name → ℕ → Name
name_in_place names place = slice_index_or names place []

-- the first net that isn't driven, at the line that names it first
abbrev pub first_loose : NetMarks → Option BenchFault
first_loose nets =
    option_map (λ place. at_line (slice_index_or nets.marks place (newly_named 0)).line (Undriven (name_in_place nets.names place)))
    (position (λ mark. not mark.driven) nets.marks)
