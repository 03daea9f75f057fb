use Rattle.std.proofs.Common.{◌-◌, length, ap, ◌∙◌}
use Rattle.circuit.specs.declared.parts.NetId.{NetId}
use Rattle.fm_base.specs.Planes.{bit}
use Rattle.region_search.proofs.RowDigits.{value_digit}
use Rattle.region_search.proofs.truth.value_in.Goals as goal

pub returns-in-Some : goal.returns-in-Some
returns-in-Some c = λ values is.
    c.digit.ensures ∙ ap (λ row. bit row (length c.args.reads.now - 1 - c.in-Some.place)) is
    ∙ value_digit values c.args.reads.now c.in-Some.place c.in-Some.ensures.0 ∙ ap values c.in-Some.ensures.1

pub returns-in-None : goal.returns-in-None
returns-in-None c = λ values is.
    absurd (c.in-None.ensures c.requires.there.0 c.args.net c.requires.there.1 (ap (λ (net : NetId). net.0) c.requires.there.2))
