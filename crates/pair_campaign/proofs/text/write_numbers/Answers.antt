use Rattle.std.proofs.Common.{◌∷◌, [], ap, ◌∙◌}
use Rattle.std.specs.Prelude.{codes, count_by, decimal}
use Rattle.fm_base.specs.Lists.{below}
use Rattle.fm_base.specs.Text.{line}
use Rattle.fm_shelf.proofs.Sending.{sends_as}
use Rattle.pair_campaign.specs.PairPlanes.{pair_bit}
use Rattle.pair_campaign.proofs.text.write_numbers.Goals as goal

pub returns : goal.returns
returns g c =
    let count = c.bytes.ensures ∙ c.number_word.ensures ∙ ap decimal (c.from.ensures ∙ c.count-count.ensures) in
    let dangerous = c.bytes-2.ensures ∙ c.number_word-2.ensures
    ∙ ap decimal (c.from-2.ensures ∙ c.count_dangerous-dangerous.ensures ∙ ap (λ n. count_by (pair_bit c.args.planes.now) (below n)) c.count-count.ensures) in
    sends_as (λ j. line (codes "pairs" ∷ count j ∷ codes "dangerous" ∷ dangerous j ∷ [])) c.write_line.ensures
