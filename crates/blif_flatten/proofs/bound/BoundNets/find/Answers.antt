use Rattle.std.proofs.Common.{arith}
use Rattle.std.specs.Prelude.{bytes_eq}
use Rattle.std.proofs.lemmas.Grind.{common_steps}
use Rattle.blif_model.specs.Statement.{Binding}
use Rattle.blif_flatten.specs.Places.{bounds_seen}
use Rattle.blif_flatten.proofs.FirstPlaces.{finds, placed}
use Rattle.blif_flatten.proofs.bound.BoundNets.find.Goals as goal

pub returns-in-Some : goal.returns-in-Some
returns-in-Some c other =
    let at = placed (λ (b : Binding). bytes_eq b.formal c.args.name.now) (bounds_seen c.self.inside.nets.items) in
    grind (arith, common_steps, finds, c.self.invariant c.args.name.now)

pub returns-in-None : goal.returns-in-None
returns-in-None c other =
    let at = placed (λ (b : Binding). bytes_eq b.formal c.args.name.now) (bounds_seen c.self.inside.nets.items) in
    grind (arith, common_steps, c.self.invariant c.args.name.now)
