use Rattle.std.proofs.Common.{◌+◌, ◌∷◌, [], ap, ◌∙◌}
use Rattle.std.specs.Prelude.{codes, decimal}
use Rattle.fm_base.specs.Text.{line}
use Rattle.metric_sums.specs.Metrics.{fraction}
use Rattle.rate_table.specs.declared.Part.{Part}
use Rattle.fmeda_report.specs.declared.tally.Tally.{Tally}
use Rattle.fmeda_report.specs.Report.{part_line}
use Rattle.fmeda_report.specs.Words.{covering_word, fraction_word}
use Rattle.metric_sums.specs.Words.{role_word}
use Rattle.fm_shelf.proofs.Sending.{sends_as}
use Rattle.fmeda_report.proofs.parts.write_part.Goals as goal

pub returns : goal.returns
unfolding part_line
returns g c planes tallied =
    let part = c.part-part.ensures in
    let name = c.as_slice.ensures ∙ ap (λ (own : Part). own.name) part in
    let role = c.role_of.ensures ∙ ap (λ (own : Part). role_word own.role) part in
    let covering = c.covering_of.ensures ∙ ap (λ (own : Part). covering_word own.covered) part in
    let permanent = c.bytes.ensures ∙ c.number_word.ensures ∙ ap (λ (own : Part). decimal own.permanent) part in
    let transient = c.bytes-2.ensures ∙ c.number_word-2.ensures ∙ ap (λ (own : Part). decimal own.transient) part in
    let faults = c.bytes-3.ensures ∙ c.number_word-3.ensures ∙ ap decimal (c.from.ensures ∙ ap (λ (t : Tally). t.all.faults) tallied) in
    let safe = c.bytes-4.ensures ∙ c.number_word-4.ensures ∙ ap decimal (c.from-2.ensures ∙ ap (λ (t : Tally). t.safe.faults) tallied) in
    let detected = c.bytes-5.ensures ∙ c.number_word-5.ensures ∙ ap decimal (c.from-3.ensures ∙ ap (λ (t : Tally). t.detected.faults) tallied) in
    let residual = c.bytes-6.ensures ∙ c.number_word-6.ensures ∙ ap decimal (c.from-4.ensures ∙ ap (λ (t : Tally). t.residual.faults) tallied) in
    let single_point = c.bytes-7.ensures ∙ c.number_word-7.ensures ∙ ap decimal (c.from-5.ensures ∙ ap (λ (t : Tally). t.single_point.faults) tallied) in
    let latent = c.bytes-8.ensures ∙ c.number_word-8.ensures ∙ ap decimal (c.from-6.ensures ∙ ap (λ (t : Tally). t.latent.faults) tallied) in
    let outside = c.bytes-9.ensures ∙ c.number_word-9.ensures ∙ ap decimal (c.from-7.ensures ∙ ap (λ (t : Tally). t.outside.faults) tallied) in
    let coverage = c.bytes-10.ensures ∙ c.fraction_word.ensures
    ∙ ap fraction_word (c.coverage.ensures ∙ ap (λ (t : Tally). fraction t.detected.weight (t.detected.weight + t.residual.weight + t.single_point.weight)) tallied) in
    sends_as
    (λ j. line (
    codes "part" ∷ name j ∷ role j ∷ covering j ∷ codes "permanent" ∷ permanent j ∷ codes "transient" ∷ transient j
    ∷ codes "faults" ∷ faults j ∷ codes "safe" ∷ safe j ∷ codes "detected" ∷ detected j
    ∷ codes "residual" ∷ residual j ∷ codes "single-point" ∷ single_point j ∷ codes "latent" ∷ latent j ∷ codes "outside" ∷ outside j
    ∷ codes "coverage" ∷ coverage j ∷ []))
    c.write_line.ensures
