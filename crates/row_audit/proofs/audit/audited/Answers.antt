use Rattle.std.proofs.Common.{◌≡◌, ◌+◌, List, ◌∷◌, length, drop, ap, sym, ◌∙◌, arith}
use Rattle.result_file.specs.declared.Row.{Row}
use Rattle.row_audit.specs.Audited.{each_nth_from}
use Rattle.row_audit.proofs.Rows.{looked_at, next_item, passed_over}
use Rattle.row_audit.proofs.audit.audited.Goals as goal
use Rattle.row_audit.proofs.audit.audited.Goals.{then-is_audited, else-is_audited}

pub loop-number-preserved : goal.loop-number-preserved
loop-number-preserved c =
    let n = c.args.every in
    let i = c.loop-number.number in
    let rows : List Row = c.args.rows.now in
    let inv = c.loop-number.invariant in
    let rest = drop (i + 1) rows in
    let item = next_item rows i c.loop-number-test.true in
    let here : each_nth_from n i (drop i rows) ≡ each_nth_from n i (item.0 ∷ rest) = ap (each_nth_from n i) item.1 in
    elim c.if-is_audited.branch [
      | then-is_audited w ↦
          (let one : length (each_nth_from n i (drop i rows)) ≡ 1 + length (each_nth_from n (i + 1) rest) =
          ap (λ (xs : List Row). length xs) (here ∙ looked_at n i item.0 rest (sym c.is_audited.ensures ∙ w.if-is_audited.true)) ∙ omega arith in
          record { few = omega (arith, w.count-is, inv.few); whole = omega (arith, w.count-is, inv.whole, one) })
      | else-is_audited w ↦
          (let none : length (each_nth_from n i (drop i rows)) ≡ length (each_nth_from n (i + 1) rest) =
          ap (λ (xs : List Row). length xs) (here ∙ passed_over n i item.0 rest (sym c.is_audited.ensures ∙ w.if-is_audited.false)) in
          record { few = omega (arith, w.count-is, inv.few); whole = omega (arith, w.count-is, inv.whole, none) })
    ]
