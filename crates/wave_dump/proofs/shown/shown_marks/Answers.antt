use Rattle.std.proofs.Common.{◌∙◌, ap, sym, length, Bool, Vec, Global, map, arith}
use Rattle.std.specs.Prelude.{Option}
use Rattle.std.proofs.lemmas.Result.{IfOk-weaker}
use Rattle.circuit.specs.Circuit.{Circuit}
use Rattle.circuit.specs.declared.parts.Fault.{Fault}
use Rattle.wave_dump.specs.Asked.{is_matched, wants_all, wants_changed}
use Rattle.wave_dump.proofs.Showing.{matching_shown}
use Rattle.wave_dump.proofs.shown.shown_marks.Goals as goal

pub returns-else-is_differing : goal.returns-else-is_differing
returns-else-is_differing c =
    let w = c.args.scene.now in
    let word = c.args.word.now in
    let net = c.netlist-else-is_differing.ensures in
    IfOk-weaker c.matching_nets.result _ _ (λ (marks : Vec Bool Global) are.
    matching_shown w word marks.items
    (omega (arith, c.matching_nets.ensures.sound.few, ap (λ (x : Circuit). length x.drivers) net))
    (omega (arith, c.matching_nets.ensures.sound.named, ap (λ (x : Circuit). length x.drivers) net, ap (λ (x : Circuit). length x.names) net))
    (ap (λ (f : Option Fault). wants_all f word) (sym c.fault.ensures) ∙ sym c.is_all.ensures ∙ c.if-is_all.false)
    (ap (λ (f : Option Fault). wants_changed f word) (sym c.fault-else-is_all.ensures) ∙ sym c.is_differing.ensures ∙ c.if-is_differing.false)
    (are ∙ ap (λ (x : Circuit). map (is_matched word) x.names) net)) c.matching_nets.ensures.marks
