use Rattle.std.proofs.Common.{sym}
use Rattle.command_line.proofs.Stretches.{found_plain, found_stepped, no_step}
use Rattle.command_line.proofs.stretch.stretch_of.Goals as goal

pub returns-in_err-plain_number-in-Some : goal.returns-in_err-plain_number-in-Some
returns-in_err-plain_number-in-Some c =
    rw c.from_residual.ensures
    (no_step c.args.text.now c.in-Some.range.now c.in-Some.step.now c.in-Some.ensures (sym c.in_err-plain_number-in-Some.ensures.value))

pub returns-in_ok-plain_number-in-Some : goal.returns-in_ok-plain_number-in-Some
returns-in_ok-plain_number-in-Some c =
    found_stepped c.args.text.now c.in-Some.range.now c.in-Some.step.now c.in-Some.ensures c.in_ok-plain_number-in-Some.field-0 c.range_of.result
    (sym c.in_ok-plain_number-in-Some.ensures.value) c.range_of.ensures

pub returns-in-None : goal.returns-in-None
returns-in-None c = found_plain c.args.text.now c.range_of-in-None.result c.in-None.ensures c.range_of-in-None.ensures
