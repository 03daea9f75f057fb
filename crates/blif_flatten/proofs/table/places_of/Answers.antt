use Rattle.std.proofs.Common.{◌≡◌, take, length, arith}
use Rattle.std.proofs.lemmas.List.{length-map, length-take, map_more}
use Rattle.blif_model.specs.Grouped.{model_of, models_seen}
use Rattle.blif_model.specs.Models.{Model}
use Rattle.blif_flatten.proofs.FirstPlaces.{places_push}
use Rattle.blif_flatten.proofs.table.places_of.Goals as goal

pub loop-place-preserved : goal.loop-place-preserved
loop-place-preserved c =
    let ms = c.args.models.now in
    let i = c.loop-place.place in
    let size : i ≡ length (models_seen (take i ms)) =
    omega (arith, length-map (take i ms) model_of, length-take i ms, c.loop-place-test.true) in
    rw (map_more model_of ms i c.index-models-place.result c.loop-place-test.true, ← c.index-models-place.is)
    (places_push (λ (m : Model). m.name) (models_seen (take i ms)) _ i c.loop-place.places.entries c.add_place.new.places.entries
    size c.loop-place.invariant c.in_ok-add_place.ensures.added)
