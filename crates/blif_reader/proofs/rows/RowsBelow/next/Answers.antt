use Rattle.std.proofs.Common.{◌+◌, drop, refl, sym, ◌∙◌}
use Rattle.std.proofs.lemmas.List.{drop_all, take_rest}
use Rattle.blif_model.specs.Models.{rows_below}
use Rattle.blif_reader.proofs.LinesBelow.{ends_rows, rows_step}
use Rattle.blif_reader.proofs.rows.RowsBelow.next.Goals as goal

pub returns-in-Row-clause-rows : goal.returns-in-Row-clause-rows
returns-in-Row-clause-rows c =
    rw take_rest (sym c.loop-place.invariant ∙ rows_step c.args.self.now.lines.now c.loop-place.place _ c.says.result _ c.loop-place-test.true c.index-lines-place.is c.says.ensures c.in-Row.is)

pub returns-in_default-clause-rows : goal.returns-in_default-clause-rows
returns-in_default-clause-rows c =
    sym c.loop-place.invariant ∙ rows_step c.args.self.now.lines.now c.loop-place.place _ c.says.result _ c.loop-place-test.true c.index-lines-place.is c.says.ensures refl
    ∙ ends_rows c.says.result c.in_default.not-Row c.in_default.not-Passed (rows_below (drop (c.loop-place.place + 1) c.args.self.now.lines.now))

pub loop-place-preserved : goal.loop-place-preserved
loop-place-preserved c =
    sym (rows_step c.args.self.now.lines.now c.loop-place.place _ c.says.result _ c.loop-place-test.true c.index-lines-place.is c.says.ensures c.in-Passed.is) ∙ c.loop-place.invariant

pub returns-clause-rows : goal.returns-clause-rows
unfolding rows_below
returns-clause-rows c = sym c.loop-place.invariant ∙ rw (drop_all c.loop-place.place c.args.self.now.lines.now c.loop-place-test.false) refl
