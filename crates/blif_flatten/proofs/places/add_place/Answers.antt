use Rattle.std.proofs.Common.{sym, ◌∙◌}
use Rattle.indexmap.proofs.CallerLemmas.{insert_entry-new}
use Rattle.blif_flatten.proofs.FirstPlaces.{added_last}
use Rattle.blif_flatten.proofs.places.add_place.Goals as goal
use Rattle.fm_base.proofs.Options.{none_from}

pub returns-clause-added : goal.returns-clause-added
returns-clause-added c =
    let places = c.args.places.now in
    let none = none_from c.place_of.result (sym c.if-is_some.ensures) in
    let new = c.in_ok-insert.ensures.entries ∙ insert_entry-new _ places c.args.name c.args.place (sym c.place_of.ensures ∙ none) in
    λ q. rw new (added_last places.entries c.args.name c.args.place q)
