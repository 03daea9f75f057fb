use Rattle.std.proofs.lemmas.Simd.{map-map}
use Rattle.blif_model.specs.Statement.{binding_of}
use Rattle.blif_model.specs.Tokens.{texts_of}
use Rattle.blif_flatten.proofs.Numbering.{kept_visits}
use Rattle.blif_flatten.proofs.acts.actual_nets.Goals as goal

pub returns : goal.returns
returns c =
    rw (map-map _ binding_of (texts_of c.args.bindings.now), c.some_nets.ensures) (kept_visits _ c.in_ok-ids.ids c.in_ok-ids.ensures)
