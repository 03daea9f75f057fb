use Rattle.std.proofs.Common.{◌≡◌, map, take}
use Rattle.blif_model.specs.Walk.{net_of}
use Rattle.blif_model.specs.Meant.{bindings_of}
use Rattle.blif_model.specs.Tokens.{texts_of}
use Rattle.blif_flatten.specs.Seen.{scope_at}
use Rattle.blif_flatten.proofs.place.bound_to.Given as goal

abbrev pub invariant-loop-binding : goal.invariant-loop-binding
invariant-loop-binding l =
    l.bound
    ≡ map (λ b. record { formal = b.formal; actual = net_of (scope_at l.place) b.actual })
    (bindings_of (texts_of (take l.binding-index l.bindings)))
