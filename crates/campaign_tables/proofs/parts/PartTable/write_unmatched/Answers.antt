use Rattle.std.proofs.Common.{◌∷◌, [], ◌∙◌, ap, length, List, ℕ, arith}
use Rattle.std.specs.Prelude.{codes, decimal, count_by, find, is_none, Option}
use Rattle.fm_base.specs.Lists.{below}
use Rattle.fm_base.specs.Text.{line}
use Rattle.fm_shelf.proofs.Sending.{sends_as}
use Rattle.campaign_tables.specs.PartSteps.{name_or_dash, unmatched_line}
use Rattle.campaign_tables.specs.Counted.{row_in_list, Looked}
use Rattle.campaign_tables.proofs.Looking.{first_unmatched, length_rows, unmatched_count}
use Rattle.campaign_tables.proofs.parts.PartTable.write_unmatched.Goals as goal

pub first_none-requires : goal.first_none-requires
first_none-requires g c =
    omega (
      arith,
      ap length (c.deref-2.ensures.value ∙ c.self.invariant.rows_are),
      length_rows c.self.inside.net.now c.self.inside.rates.now,
      c.self.invariant.few,
    )

pub returns : goal.returns
unfolding unmatched_line
returns g c =
    let net = c.self.inside.net.now in
    let rates = c.self.inside.rates.now in
    let count = c.bytes.ensures ∙ c.number_word.ensures
    ∙ ap decimal (c.count_none.ensures ∙ ap (λ (rows : List (Option ℕ)). count_by is_none rows) (c.deref.ensures.value ∙ c.self.invariant.rows_are) ∙ unmatched_count net rates) in
    let first = c.name_or_dash.ensures ∙ ap (name_or_dash net)
    (c.first_none.ensures ∙ ap (λ (rows : List (Option ℕ)). find (λ i. is_none (row_in_list rows i)) (below (length rows))) (c.deref-2.ensures.value ∙ c.self.invariant.rows_are)
    ∙ first_unmatched net rates) in
    sends_as
    ((λ j. line (codes "unmatched" ∷ count j ∷ codes "first" ∷ first j ∷ [])) ∙ ap (λ (l : Looked). unmatched_line l.circuit l.rates) c.self.view_is)
    c.write_line.ensures
