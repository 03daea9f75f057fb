use Rattle.std.proofs.Common.{List, min, ap, ◌∙◌, ℕ}
use Rattle.std.specs.Prelude.{slice_get}
use Rattle.std.specs.Option.{unwrap_or}
use Rattle.blif_model.specs.Models.{Model}
use Rattle.blif_hierarchy.proofs.FirstLines.{over_lines}
use Rattle.blif_reader.specs.Counts.{model_count}
use Rattle.blif_reader.proofs.LinesBelow.{main_total}
use Rattle.blif_reader.proofs.sizes.main_count.Goals as goal

pub returns : goal.returns
returns c =
    let models = c.args.models.now in
    let own = c.as_slice.ensures.value ∙ c.in_ok-own.ensures ∙ over_lines (λ (m : Model). min c.args.cap (model_count c.args.count m)) c.lines.result.now models c.lines.ensures in
    let totals = rw c.requires.graph at (c.in_ok-totals.ensures (model_count c.args.count)) in
    c.unwrap_or.ensures
    ∙ ap (λ o. unwrap_or o 0) (c.copied.ensures ∙ c.first.ensures.value ∙ ap (λ (counts : List ℕ). slice_get counts 0) (c.deref.ensures.value ∙ totals own))
    ∙ main_total c.args.count c.args.cap models
