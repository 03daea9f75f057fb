use Rattle.std.proofs.Common.{◌≡◌, Bool, false, List, get_or, ap, sym, ◌∙◌}
use Rattle.circuit.specs.declared.parts.NetId.{NetId}
use Rattle.reading_planes.specs.Folded.{FaultCycles}
use Rattle.reading_planes.proofs.Shows.{kept_without}
use Rattle.reading_planes.proofs.notice.noticed_without.Goals as goal
use Rattle.testbench.specs.Points.{alarm_at}

pub returns-else-own : goal.returns-else-own
returns-else-own c = λ gives same noticed.
    let nets = c.args.nets.now in
    let out : NetId = alarm_at nets c.args.a in
    let list : c.as_slice-notices.result.now ≡ c.args.cycles.now.notices = c.as_slice-notices.ensures.value ∙ ap (λ (l : FaultCycles). l.notices) c.cycles.view_is in
    let none : gives out ≡ false = sym (same c.args.a c.requires.alarm) ∙ sym (ap (λ (bs : List Bool). get_or bs c.args.a false) list) ∙ c.if-own.false in
    ap (λ (l : FaultCycles). l.noticed) c.cycles.view_is ∙ noticed ∙ kept_without gives out nets none
