use Rattle.std.proofs.Common.{refl, arith}
use Rattle.blif_flatten.proofs.Numbering.{all_are}
use Rattle.blif_flatten.proofs.Walking.{line_walked}
use Rattle.blif_flatten.proofs.walk.walk_line.Goals as goal

pub returns-then-len-most : goal.returns-then-len-most
returns-then-len-most c =
    let new = c.act_of.new.names.index in
    let on = line_walked c.args.walked new c.args.line c.in_ok-act.act _ c.in_ok-act.ensures in
    rw (← on.1, ← all_are on.0) (omega arith, omega arith)

pub invariant_of-result : goal.invariant_of-result
invariant_of-result c =
    let on = line_walked c.args.walked c.act_of.new.names.index c.args.line c.in_ok-act.act _ c.in_ok-act.ensures in
    record { numbered = rw c.in_ok-put_step.ensures on.0; fits = omega arith }

pub returns : goal.returns
returns c =
    let on = line_walked c.args.walked c.act_of.new.names.index c.args.line c.in_ok-act.act _ c.in_ok-act.ensures in
    (refl, rw c.in_ok-put_step.ensures on.1)
