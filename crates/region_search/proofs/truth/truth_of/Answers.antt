use Rattle.std.proofs.Common.{◌≡◌, inl, inr, map, ap, sym, ◌∙◌, arith}
use Rattle.std.proofs.lemmas.Bool.{cases_eq}
use Rattle.circuit.specs.Table.{table_value}
use Rattle.circuit.specs.declared.parts.NetId.{NetId}
use Rattle.fm_base.specs.Planes.{bit}
use Rattle.region_search.proofs.RowDigits.{row_inside}
use Rattle.region_search.specs.Truth.{row_of}
use Rattle.region_search.proofs.truth.truth_of.Goals as goal

pub loop-row-preserved : goal.loop-row-preserved
loop-row-preserved c = record {
  noted = λ values lt.
      elim (cases_eq (row_of values c.args.reads.now) c.loop-row.row) as
      (λ _. bit c.with_row-truth.result (row_of values c.args.reads.now) ≡ table_value c.args.table.now (map (λ (net : NetId). values net.0) c.args.table.now.ins)) [
        | inl same ↦ ap (bit c.with_row-truth.result) same ∙ c.with_row-truth.ensures.there ∙ c.gives_in-value.ensures values (sym same)
        | inr other ↦ c.with_row-truth.ensures.others (row_of values c.args.reads.now) other ∙ c.loop-row.invariant.noted values (omega (arith, lt, other))
      ];
  clear = λ r le. c.with_row-truth.ensures.others r (λ same. absurd (omega (arith, same, le))) ∙ c.loop-row.invariant.clear r (omega (arith, le));
}

pub returns : goal.returns
returns c = λ values.
    let inside = row_inside values c.args.reads.now in
    sym (c.loop-row.invariant.noted values (omega (arith, inside, c.loop-row-test.false, c.rows_of-row-end.ensures.value)))
