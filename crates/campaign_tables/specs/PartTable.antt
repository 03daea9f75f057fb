-- The nets and the latches that each row of a rates file takes: those whose first match it is. This project's own rule and form.
use Rattle.std.specs.Prelude.{ℕ, Bool, false, [], ◌∷◌, ◌++◌, flat_map, length, count_by, find, position, Option, is_none, slice_index_or, if◌then◌else◌, ◌==◌, codes, decimal}
use Rattle.std.specs.Option.{option_map_or}
use Rattle.circuit.specs.Circuit.{Circuit}
use Rattle.circuit.specs.Names.{net_name}
use Rattle.metric_sums.specs.declared.Role.TheVariants.{Other}
use Rattle.rate_table.specs.Table.{RateTable, matches}
use Rattle.fm_base.specs.Lists.{below}
use Rattle.fm_base.specs.Names.{Bytes}
use Rattle.fm_base.specs.Text.{line}
use Rattle.metric_sums.specs.Words.{role_word}

-- the row that takes a net: the first one whose pattern matches its name, by its number from 0
abbrev pub row_of_net : Circuit → RateTable → ℕ → Option ℕ
row_of_net c table net = position (λ pattern. matches pattern (net_name c net)) table.patterns

-- the line of row k: its pattern and part, how many nets and latches it takes (a latch by its output net), the first of the nets, or `-`
unfoldable pub row_line : Circuit → RateTable → ℕ → Bytes
row_line c table k =
    let pattern = slice_index_or table.patterns k (record { name = []; star = false; part = 0 }) in
    let own = slice_index_or table.parts pattern.part (record { name = []; role = Other; covered = false; permanent = 0; transient = 0 }) in
    let nets = below (length c.drivers) in
    let takes : ℕ → Bool = λ net. option_map_or (λ row. row == k) (row_of_net c table net) false in
    line (codes "pattern" ∷ (pattern.name ++ (if pattern.star then codes "*" else [])) ∷ codes "part" ∷ own.name ∷ codes "role"
    ∷ role_word own.role ∷ codes "covered" ∷ (if own.covered then codes "yes" else codes "no") ∷ codes "nets"
    ∷ decimal (count_by takes nets) ∷ codes "latches" ∷ decimal (count_by (λ latch. takes latch.to.0) c.latches) ∷ codes "first"
    ∷ option_map_or (net_name c) (find takes nets) (codes "-") ∷ [])

-- THE TEXT of `parts`: a line for each row in order; and how many nets no row takes, and the first of them, or `-`
unfoldable pub part_table : Circuit → RateTable → Bytes
part_table c table =
    let nets = below (length c.drivers) in
    let is_unmatched : ℕ → Bool = λ net. is_none (row_of_net c table net) in
    flat_map (row_line c table) (below (length table.patterns))
    ++ line (codes "unmatched" ∷ decimal (count_by is_unmatched nets) ∷ codes "first"
    ∷ option_map_or (net_name c) (find is_unmatched nets) (codes "-") ∷ [])
