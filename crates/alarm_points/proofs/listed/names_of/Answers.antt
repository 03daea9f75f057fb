use Rattle.std.proofs.Common.{◌≡◌, ◌∙◌, [], get_or, sym, subst}
use Rattle.std.proofs.lemmas.List.{get_or_default}
use Rattle.circuit.specs.Sound.{AreApart}
use Rattle.fm_base.specs.Index.{with_name}
use Rattle.alarm_points.proofs.Listing.{names_step}
use Rattle.alarm_points.proofs.listed.names_of.Goals as goal

-- no name stands twice
pub loop-name-preserved : goal.loop-name-preserved
loop-name-preserved c =
    let names = c.names-names.result.now in
    let i = c.loop-name.name-index in
    let apart : AreApart names = subst AreApart (sym c.names-names.ensures.value) c.names-names.ensures.sound.names in
    let item : c.as_slice.result.now ≡ get_or names i [] =
    c.as_slice.ensures ∙ c.name-item.is ∙ sym (get_or_default names i [] c.name-item.result c.loop-name-test.true) in
    c.in_ok-insert.ensures ∙ (λ t. with_name (c.loop-name.invariant t) (item t)) ∙ names_step names i apart c.loop-name-test.true
