use Rattle.std.proofs.Common.{◌∷◌, [], length, ap, ◌∙◌}
use Rattle.std.specs.Prelude.{codes, decimal}
use Rattle.fm_base.specs.Text.{line}
use Rattle.fm_shelf.proofs.Sending.{sends_as}
use Rattle.refusals.proofs.check_text.write_netlist.Goals as goal

pub returns : goal.returns
returns g c =
    let nets = c.bytes.ensures ∙ c.number_word.ensures ∙ ap decimal c.nets.ensures.count in
    let inputs = c.bytes-2.ensures ∙ c.number_word-2.ensures ∙ ap decimal (ap length c.inputs.ensures.value) in
    let tables = c.bytes-3.ensures ∙ c.number_word-3.ensures ∙ ap decimal c.tables.ensures.count in
    let latches = c.bytes-4.ensures ∙ c.number_word-4.ensures ∙ ap decimal (ap length c.latches.ensures.value) in
    sends_as
    (λ j. line (codes "netlist nets" ∷ nets j ∷ codes "inputs" ∷ inputs j ∷ codes "tables" ∷ tables j ∷ codes "latches" ∷ latches j ∷ []))
    c.write_line.ensures
