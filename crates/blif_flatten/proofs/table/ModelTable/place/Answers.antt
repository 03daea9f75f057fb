use Rattle.std.proofs.Common.{◌∙◌}
use Rattle.std.specs.Prelude.{bytes_eq}
use Rattle.blif_model.specs.Models.{Model}
use Rattle.blif_model.specs.Grouped.{models_seen}
use Rattle.blif_flatten.proofs.FirstPlaces.{placed}
use Rattle.blif_flatten.proofs.table.ModelTable.place.Goals as goal

pub returns : goal.returns
returns c =
    let name = c.args.name.now in
    rw (c.place_of.ensures ∙ c.self.invariant name, ← c.self.view_is)
    (placed (λ (m : Model). bytes_eq m.name name) (models_seen c.self.inside.models.items))
