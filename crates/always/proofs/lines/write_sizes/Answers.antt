use Rattle.std.proofs.Common.{◌∷◌, [], length, ap, ◌∙◌}
use Rattle.std.specs.Prelude.{codes, decimal}
use Rattle.circuit.specs.Circuit.{Circuit}
use Rattle.fm_base.specs.Text.{line}
use Rattle.campaign_plan.specs.declared.Settings.{Settings}
use Rattle.metric_sums.specs.Words.{asil_word}
use Rattle.fm_shelf.proofs.Sending.{sends_as}
use Rattle.always.specs.Text.{sizes_line}
use Rattle.always.proofs.lines.write_sizes.Goals as goal

pub returns : goal.returns
unfolding sizes_line
returns g c =
    let net = c.net-net.ensures.value in
    let settings = c.settings-settings.ensures.value in
    let nets = c.bytes.ensures ∙ c.number_word.ensures ∙ ap decimal (c.nets.ensures.count ∙ ap (λ (own : Circuit). length own.drivers) net) in
    let latches = c.bytes-2.ensures ∙ c.number_word-2.ensures
    ∙ ap decimal (ap length c.latches.ensures.value ∙ ap (λ (own : Circuit). length own.latches) net) in
    let faults = c.bytes-3.ensures ∙ c.number_word-3.ensures ∙ ap decimal (c.from.ensures ∙ c.len.ensures.count ∙ ap length c.faults.ensures.value) in
    let ftti = c.bytes-4.ensures ∙ c.number_word-4.ensures ∙ ap decimal (c.from-2.ensures ∙ ap (λ (own : Settings). own.ftti) settings) in
    let asil = c.asil_word.ensures ∙ ap (λ (own : Settings). asil_word own.asil) settings in
    sends_as
    (λ j. line (codes "nets" ∷ nets j ∷ codes "latches" ∷ latches j ∷ codes "faults" ∷ faults j ∷ codes "ftti" ∷ ftti j ∷ codes "asil" ∷ asil j ∷ []))
    c.write_line.ensures
