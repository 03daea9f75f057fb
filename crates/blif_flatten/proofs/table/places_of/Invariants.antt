use Rattle.std.proofs.Common.{take}
use Rattle.blif_model.specs.Grouped.{models_seen}
use Rattle.blif_flatten.specs.Places.{AreNamePlaces}
use Rattle.blif_flatten.proofs.table.places_of.Given as goal

abbrev pub invariant-loop-place : goal.invariant-loop-place
invariant-loop-place l = AreNamePlaces (λ m. m.name) (models_seen (take l.place l.models)) l.places.entries
