use Rattle.std.proofs.Common.{◌≡◌, ◌<◌, ◌-◌, ◌&&◌, ℕ, length, map, drop}
use Rattle.circuit.specs.Table.{row_matches}
use Rattle.lane_words.proofs.table.row_word.Given as goal

abbrev pub decreases-lits : goal.decreases-lits
decreases-lits g l = length l.row - l.i

-- what is left decides as all of them do
abbrev pub invariant-lits : goal.invariant-lits
invariant-lits g l =
    (k : ℕ) → k < g.W.Word.lanes
    → (g.W.Word.lane_bit l.every k && row_matches (drop l.i l.row) (map (λ m. g.N.NetWords.read l.nets k m.0) (drop l.i l.ins)))
    ≡ row_matches l.row (map (λ m. g.N.NetWords.read l.nets k m.0) l.ins)
