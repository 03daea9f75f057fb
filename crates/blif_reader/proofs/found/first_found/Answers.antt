use Rattle.std.proofs.Common.{◌∙◌, ap, arith, length, List, sym}
use Rattle.std.specs.Prelude.{find, None, Some}
use Rattle.std.proofs.lemmas.Grind.{common_steps}
use Rattle.blif_model.specs.Walk.{Step}
use Rattle.blif_flatten.specs.Flat.{name_at}
use Rattle.blif_reader.specs.Found.{is_wanted, passes, visits_by}
use Rattle.blif_reader.proofs.Finding.{found_step, found_within}
use Rattle.blif_reader.proofs.FlatSteps.{none_left}
use Rattle.blif_reader.proofs.found.first_found.Goals as goal

pub returns-in-Some-clause-visit : goal.returns-in-Some-clause-visit
returns-in-Some-clause-visit c = λ test are.
    let names = c.args.flat.now.names in
    let here = c.step_at-step.ensures in
    sym (found_step _ _ _ test are _ _ _ _ (Some c.in-Some.name) here (c.mentions_in.ensures.names (name_at names))
    (c.mentions_in.ensures.within (length names) here.within) (sym c.in-Some.is ∙ c.first_in.ensures)) ∙ c.loop-place.invariant test are

pub returns-in-Some-clause-within : goal.returns-in-Some-clause-within
returns-in-Some-clause-within c =
    let count = length c.args.flat.now.names in
    found_within count (is_wanted c.args.marks.now c.args.wanted) _ c.in-Some.name
    (c.mentions_in.ensures.within count c.step_at-step.ensures.within) (sym c.first_in.ensures ∙ c.in-Some.is)

pub loop-place-preserved : goal.loop-place-preserved
loop-place-preserved c = λ test are.
    let names = c.args.flat.now.names in
    let here = c.step_at-step.ensures in
    sym (found_step _ _ _ test are _ _ _ _ None here (c.mentions_in.ensures.names (name_at names))
    (c.mentions_in.ensures.within (length names) here.within) (sym c.in-None.is ∙ c.first_in.ensures)) ∙ c.loop-place.invariant test are

pub returns-clause-visit : goal.returns-clause-visit
returns-clause-visit c = λ test are.
    let none = none_left c.args.flat.now c.loop-place.place (grind (arith, common_steps)) in
    sym (ap (λ (ss : List Step). find (passes c.args.wanted test) (visits_by c.args.sort ss)) none) ∙ c.loop-place.invariant test are
