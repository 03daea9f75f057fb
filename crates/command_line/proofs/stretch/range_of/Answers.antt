use Rattle.std.proofs.Common.{sym, inl, inr, arith}
use Rattle.command_line.proofs.Stretches.{no_first, no_last, no_range, range_uncut}
use Rattle.command_line.proofs.stretch.range_of.Goals as goal
use Rattle.command_line.proofs.stretch.range_of.Goals.{else-first-last-via-then-first-last+else-step-ge1, else-first-last-via-else-first-last}

pub returns-in_err-first : goal.returns-in_err-first
returns-in_err-first c = rw c.from_residual.ensures (range_uncut c.args.text.now c.args.step c.in_err-first.ensures)

pub returns-in_err-first-2 : goal.returns-in_err-first-2
returns-in_err-first-2 c =
    rw c.from_residual-in_err-first-2.ensures
    (no_first c.args.text.now c.in_ok-first.first.now c.in_ok-first.last.now c.args.step c.in_ok-first.ensures (sym c.in_err-first-2.ensures.value))

pub returns-in_err-last : goal.returns-in_err-last
returns-in_err-last c =
    rw c.from_residual-in_err-last.ensures
    (no_last c.args.text.now c.in_ok-first.first.now c.in_ok-first.last.now c.args.step c.in_ok-first.ensures (sym c.in_err-last.ensures.value))

-- the bounds don't rise, or the step is 0
pub returns-else-first-last : goal.returns-else-first-last
returns-else-first-last c =
    let bad = no_range c.args.text.now c.in_ok-first.first.now c.in_ok-first.last.now c.args.step c.in_ok-first.ensures c.in_ok-first-2.first c.in_ok-last.last
    (sym c.in_ok-first-2.ensures.value) (sym c.in_ok-last.ensures.value) in
    elim c.else-first-last.branch [
      | else-first-last-via-then-first-last+else-step-ge1 w ↦ bad (inr (omega (arith, w.if-step-ge1.false)))
      | else-first-last-via-else-first-last w ↦ bad (inl (omega (arith, w.if-first-last.false)))
    ]
