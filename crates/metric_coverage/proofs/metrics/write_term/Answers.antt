use Rattle.std.proofs.Common.{◌∙◌, ap}
use Rattle.std.specs.Prelude.{Some, codes, decimal}
use Rattle.metric_bounds.specs.Steps.{standing_word}
use Rattle.fm_shelf.proofs.Sending.{sends_as}
use Rattle.metric_coverage.specs.Text.{bound_line}
use Rattle.metric_coverage.proofs.metrics.write_term.Goals as goal

pub returns : goal.returns
returns g c =
    let least = c.bytes.ensures ∙ c.number_word-least.ensures ∙ ap decimal c.least_term.ensures in
    let greatest = c.bytes-2.ensures ∙ c.number_word-greatest.ensures ∙ ap decimal c.greatest_term.ensures in
    sends_as (λ j. bound_line c.args.word.now (codes "term") (least j) (greatest j) (standing_word (Some (c.term_standing-standing.ensures j)))) c.write_bounds.ensures
