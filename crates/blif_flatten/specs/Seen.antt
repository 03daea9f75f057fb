-- What places mean, the nets that are bound to formals, and the names that tokens mention.
use Rattle.blif_model.specs.Statement.{binding_of}
use Rattle.blif_model.specs.Walk.{Scope, top, inside}
use Rattle.blif_flatten.specs.declared.names.Mention.{Mention}
use Rattle.blif_flatten.specs.declared.names.Mention.TheVariants.{Whole, Actual}
use Rattle.blif_flatten.specs.declared.place.Place.{Place}
use Rattle.blif_flatten.specs.declared.place.Place.TheVariants.{Main, Inner}
use Rattle.fm_base.specs.Names.{Name}

abbrev pub scope_at : Place → Scope
scope_at Main = top
scope_at (Inner path bound) = inside path bound

abbrev pub mentioned_name : Mention → Name → Name
mentioned_name Whole text = text
mentioned_name Actual text = (binding_of text).actual
