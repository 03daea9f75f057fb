use Rattle.std.proofs.Common.{◌≡◌, Bool, not, Bor, arith}
use Rattle.std.specs.Prelude.{Option, Some, None, is_none, is_some, option_map}
use Rattle.blif_model.specs.Meant.{bindings_of}
use Rattle.blif_model.specs.Models.{model_named}
use Rattle.blif_model.specs.Tokens.{texts_of}
use Rattle.blif_hierarchy.specs.declared.ports.Ports.{Ports}
use Rattle.blif_hierarchy.proofs.Bindings.{links_are}
use Rattle.blif_hierarchy.proofs.links.own_links.Goals as goal

same_none : (o : Option (Bor Ports)) (b : Bool) → is_some o ≡ not b → b ≡ is_none (option_map (λ p. p.now) o)
same_none None b e = grind arith
same_none (Some p) b e = grind arith

pub returns : goal.returns
returns c =
    let unknown = same_none c.ports_named-inner.result c.is_none.result c.is_none.ensures in
    rw (c.line_if.ensures, c.line_if-2.ensures, c.line_if-3.ensures, unknown, c.has_bad_formal.ensures, c.has_unbound.ensures)
    (links_are (record { line = c.args.line; name = c.args.name.now; bindings = bindings_of (texts_of c.args.bindings.now) })
    (model_named c.args.models.now c.args.name.now) _ _ c.ports_named-inner.ensures c.in_ok-bound.ensures)
