use Rattle.std.proofs.Common.{ap, sym, ◌∙◌, arith}
use Rattle.bench_reader.specs.Steps.{is_odd_row}
use Rattle.bench_reader.proofs.Parity.{no_numbers, all_numbers, number_kept, number_passed}
use Rattle.bench_reader.proofs.cells.parity_rows.Goals as goal
use Rattle.bench_reader.proofs.cells.parity_rows.Goals.{then-is_odd+in_ok-push, else-is_odd}

pub loop-number-init : goal.loop-number-init
loop-number-init c = c.new-rows.ensures ∙ no_numbers c.args.inputs

pub loop-number-preserved : goal.loop-number-preserved
loop-number-preserved c =
    elim c.if-is_odd.branch [
      | then-is_odd+in_ok-push w ↦ number_kept c.args.inputs c.loop-number.number c.loop-number.rows c.if-is_odd.rows c.in_ok-row.row c.in_ok-row.ensures
          (sym (c.is_odd.ensures ∙ ap is_odd_row c.as_slice.ensures) ∙ w.if-is_odd.true) (w.rows-is ∙ w.in_ok-push.ensures.ok) c.loop-number.invariant
      | else-is_odd w ↦ w.rows-is ∙ number_passed c.args.inputs c.loop-number.number c.loop-number.rows c.in_ok-row.row c.in_ok-row.ensures
          (sym (c.is_odd.ensures ∙ ap is_odd_row c.as_slice.ensures) ∙ w.if-is_odd.false) c.loop-number.invariant
    ]

pub returns : goal.returns
returns c = all_numbers c.args.inputs c.loop-number.number c.loop-number.rows c.requires (let e = c.pow-numbers.ensures in omega arith) c.loop-number.invariant
