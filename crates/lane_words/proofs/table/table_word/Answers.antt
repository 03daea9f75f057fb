use Rattle.std.proofs.Common.{not, map, ap, ◌∙◌}
use Rattle.std.specs.List.{list_any}
use Rattle.circuit.specs.declared.parts.NetId.{NetId}
use Rattle.circuit.specs.Table.{row_matches}
use Rattle.lane_words.proofs.WideRows.{where_on, where_off}
use Rattle.lane_words.proofs.table.table_word.Goals as goal

pub returns-then-table : goal.returns-then-table
returns-then-table g c = λ k lt.
    c.rows_word-some.ensures k lt
    ∙ ap (λ ins. list_any (λ row. row_matches row (map (λ (m : NetId). g.N.NetWords.read c.args.nets.now k m.0) ins)) c.as_slice.result.now) c.as_slice-2.ensures
    ∙ ap (list_any (λ row. row_matches row (map (λ (m : NetId). g.N.NetWords.read c.args.nets.now k m.0) c.args.table.now.ins))) c.as_slice.ensures
    ∙ where_on _ c.args.table.now.on c.if-table.true

pub returns-else-table : goal.returns-else-table
returns-else-table g c = λ k lt.
    c.inverse.ensures k lt
    ∙ ap not
    (c.rows_word-some.ensures k lt
    ∙ ap (λ ins. list_any (λ row. row_matches row (map (λ (m : NetId). g.N.NetWords.read c.args.nets.now k m.0) ins)) c.as_slice.result.now) c.as_slice-2.ensures
    ∙ ap (list_any (λ row. row_matches row (map (λ (m : NetId). g.N.NetWords.read c.args.nets.now k m.0) c.args.table.now.ins))) c.as_slice.ensures)
    ∙ where_off _ c.args.table.now.on c.if-table.false
