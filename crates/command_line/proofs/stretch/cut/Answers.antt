use Rattle.std.proofs.Common.{◌≡◌, ◌+◌, ◌-◌, length, take, drop, sym, subst, arith}
use Rattle.std.proofs.lemmas.Grind.{common_steps}
use Rattle.command_line.specs.Cycles.{IsCut}
use Rattle.command_line.proofs.Stretches.{cut_at, uncut}
use Rattle.command_line.proofs.stretch.cut.Goals as goal

pub returns-in_err-place : goal.returns-in_err-place
returns-in_err-place c = rw c.from_residual.ensures (uncut c.args.text.now c.args.sign (sym c.in_err-place.ensures))

pub returns : goal.returns
returns c =
    let text = c.args.text.now in
    let place = c.in_ok-place.place in
    let rest : take (length text - (place + 1)) (drop (place + 1) text) ≡ drop (place + 1) text = grind (arith, common_steps) in
    subst (IsCut c.args.sign text (take place text)) (sym rest) (cut_at text c.args.sign place (sym c.in_ok-place.ensures))
