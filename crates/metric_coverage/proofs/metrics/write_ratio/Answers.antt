use Rattle.std.proofs.Common.{◌∙◌}
use Rattle.metric_bounds.specs.Steps.{standing_word}
use Rattle.fm_shelf.proofs.Sending.{sends_as}
use Rattle.metric_coverage.specs.Text.{bound_line}
use Rattle.metric_coverage.proofs.metrics.write_ratio.Goals as goal

pub returns : goal.returns
returns g c =
    let least = c.bytes.ensures ∙ c.fraction_word-least.ensures in
    let greatest = c.bytes-2.ensures ∙ c.fraction_word-greatest.ensures in
    sends_as (λ j. bound_line c.args.word.now c.args.label.now (least j) (greatest j) (standing_word (c.standing.ensures j))) c.write_bounds.ensures
