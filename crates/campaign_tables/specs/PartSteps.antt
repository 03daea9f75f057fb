-- Shapes of private steps: how the rows that take the nets are looked up, counted and written. Nothing public cites them.
use Rattle.std.specs.Prelude.{ℕ, Bool, false, List, [], ◌∷◌, length, count_by, find, Option, is_none, slice_index_or, if◌then◌else◌, ◌==◌, codes, decimal}
use Rattle.std.specs.Option.{option_map_or}
use Rattle.circuit.specs.Circuit.{Circuit}
use Rattle.circuit.specs.Names.{net_name}
use Rattle.metric_sums.specs.declared.Role.TheVariants.{Other}
use Rattle.rate_table.specs.declared.Part.{Part}
use Rattle.rate_table.specs.declared.Pattern.{Pattern}
use Rattle.rate_table.specs.Table.{RateTable}
use Rattle.fm_base.specs.Lists.{below}
use Rattle.fm_base.specs.Names.{Bytes}
use Rattle.fm_base.specs.Text.{line}
use Rattle.campaign_tables.specs.PartTable.{row_of_net}

-- the name of a net, or `-` where there is none
abbrev pub name_or_dash : Circuit → Option ℕ → Bytes
name_or_dash c net = option_map_or (net_name c) net (codes "-")

-- it is row k
abbrev pub is_at_row : ℕ → Option ℕ → Bool
is_at_row k taken = option_map_or (λ row. row == k) taken false

-- row k takes a net
abbrev pub row_takes : Circuit → RateTable → ℕ → ℕ → Bool
row_takes c table k net = is_at_row k (row_of_net c table net)

-- no row takes a net
abbrev pub is_unmatched : Circuit → RateTable → ℕ → Bool
is_unmatched c table net = is_none (row_of_net c table net)

-- all nets by their numbers
abbrev pub net_numbers : Circuit → List ℕ
net_numbers c = below (length c.drivers)

-- a row's pattern, and the part of a pattern
abbrev pub pattern_numbered : RateTable → ℕ → Pattern
pattern_numbered table k = slice_index_or table.patterns k (record { name = []; star = false; part = 0 })

abbrev pub part_of_pattern : RateTable → Pattern → Part
part_of_pattern table pattern =
    slice_index_or table.parts pattern.part (record { name = []; role = Other; covered = false; permanent = 0; transient = 0 })

-- a star behind a pattern that has one
abbrev pub star_word : Bool → Bytes
star_word star = if star then codes "*" else []

-- the last line: how many nets no row takes, and the first of them
unfoldable pub unmatched_line : Circuit → RateTable → Bytes
unmatched_line c table =
    line (codes "unmatched" ∷ decimal (count_by (is_unmatched c table) (net_numbers c)) ∷ codes "first" ∷ name_or_dash c (find (is_unmatched c table) (net_numbers c)) ∷ [])
