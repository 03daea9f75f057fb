use Rattle.std.proofs.Common.{◌≡◌, ℕ, List, Option, None, map, get_or, ap, sym, ◌∙◌}
use Rattle.circuit.specs.declared.parts.NetId.{NetId}
use Rattle.first_cycles.specs.FirstCycles.{earliest}
use Rattle.reading_planes.specs.Folded.{FaultCycles}
use Rattle.reading_planes.proofs.Earliest.{differ, stays_without}
use Rattle.reading_planes.proofs.late.first_without.Goals as goal

pub returns-else-eq : goal.returns-else-eq
returns-else-eq c = λ alarm same earliest_is.
    let nets = c.args.nets.now in
    let out : NetId = get_or nets c.args.a (record { 0 = 0 }) in
    let first_is : c.cycles.inside.first ≡ earliest (map alarm nets) = ap (λ (l : FaultCycles). l.first) c.cycles.view_is ∙ earliest_is in
    let value : get_or c.as_slice-alarms.result.now c.args.a None ≡ alarm out =
    ap (λ (xs : List (Option ℕ)). get_or xs c.args.a None) (c.as_slice-alarms.ensures.value ∙ ap (λ (l : FaultCycles). l.alarms) c.cycles.view_is) ∙ same c.args.a c.requires.alarm in
    first_is ∙ stays_without alarm out nets (λ e. differ _ _ (sym c.eq.ensures ∙ c.if-eq.false) (value ∙ e ∙ sym first_is))
