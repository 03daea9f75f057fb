use Rattle.std.proofs.Common.{◌∷◌, [], ap, ◌∙◌}
use Rattle.std.specs.Prelude.{codes, decimal}
use Rattle.fm_base.specs.Text.{line}
use Rattle.fm_shelf.proofs.Sending.{sends_as}
use Rattle.refusals.proofs.check_text.write_workload.Goals as goal

pub returns : goal.returns
returns g c =
    let runs = c.bytes.ensures ∙ c.number_word.ensures ∙ ap decimal (c.from.ensures ∙ c.runs.ensures.count) in
    let cycles = c.bytes-2.ensures ∙ c.number_word-2.ensures ∙ ap decimal (c.from-2.ensures ∙ c.all_cycles.ensures) in
    sends_as (λ j. line (codes "workload workloads" ∷ runs j ∷ codes "cycles" ∷ cycles j ∷ [])) c.write_line.ensures
