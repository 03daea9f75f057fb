use Rattle.std.proofs.Common.{◌≡◌, ◌<◌, ◌||◌, ℕ, map, drop}
use Rattle.std.specs.List.{list_any}
use Rattle.circuit.specs.Table.{row_matches}
use Rattle.lane_words.proofs.table.rows_word.Given as goal

-- what is left decides as all of them do
abbrev pub invariant-loop-row : goal.invariant-loop-row
invariant-loop-row g l =
    (k : ℕ) → k < g.W.Word.lanes
    → (g.W.Word.lane_bit l.some k || list_any (λ row. row_matches row (map (λ m. g.N.NetWords.read l.nets k m.0) l.ins)) (drop l.row-index l.rows))
    ≡ list_any (λ row. row_matches row (map (λ m. g.N.NetWords.read l.nets k m.0) l.ins)) l.rows
