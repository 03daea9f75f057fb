use Rattle.std.proofs.Common.{◌≡◌, length, arith}
use Rattle.std.proofs.lemmas.Grind.{common_steps}
use Rattle.std.proofs.lemmas.List.{map-append}
use Rattle.blif_model.specs.Statement.{Binding}
use Rattle.blif_flatten.specs.Places.{bounds_seen}
use Rattle.blif_flatten.proofs.FirstPlaces.{places_push}
use Rattle.blif_flatten.proofs.bound.BoundNets.push.Goals as goal

pub invariant_of-self-in-Ok : goal.invariant_of-self-in-Ok
invariant_of-self-in-Ok c =
    let nets = c.self.inside.nets.items in
    let size : c.len-place.result ≡ length (bounds_seen nets) = grind (arith, common_steps) in
    rw (c.in_ok-push.ensures.items, map-append)
    (places_push (λ (b : Binding). b.formal) (bounds_seen nets) _ c.len-place.result c.self.inside.places.entries
    c.add_place.new.places.entries size c.self.invariant c.in-Ok.ensures.added)
