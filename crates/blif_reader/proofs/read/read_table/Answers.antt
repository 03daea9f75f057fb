use Rattle.std.proofs.Common.{◌≡◌, ◌^◌, List, ap, length, refl, sym, ◌∙◌}
use Rattle.std.proofs.lemmas.Bool.{lt-ltb}
use Rattle.net_names.proofs.Answers.{gives_same}
use Rattle.blif_model.specs.Walk.{Step, nets_of, walk}
use Rattle.blif_flatten.specs.Flattened.{flat_steps}
use Rattle.blif_reader.specs.Stages.{models_give, walk_gives}
use Rattle.blif_reader.proofs.Reading.{over_names}
use Rattle.blif_reader.proofs.Thinned.{thinned-gives}
use Rattle.blif_reader.proofs.read.read_table.Goals as goal

pub read_flat-requires : goal.read_flat-requires
read_flat-requires c =
    let line = c.main_line-line.result in
    let same = rw c.in-Some-2.is at c.in_ok-flat.ensures.steps in
    λ p e. c.requires p (rw (sym c.in_ok-fault.ensures ∙ c.in-None.is, sym c.main_line-line.ensures)
    (sym (thinned-gives (walk c.args.models.now) line) ∙ ap (λ (steps : List Step). walk_gives steps line) (sym same) ∙ e))

pub returns-in-Some-2 : goal.returns-in-Some-2
returns-in-Some-2 c =
    let line = c.main_line-line.result in
    let same = rw c.in-Some-2.is at c.in_ok-flat.ensures.steps in
    let told : models_give c.args.models.now ≡ walk_gives (flat_steps c.in-Some-2.flat) line =
    rw (sym c.in_ok-fault.ensures ∙ c.in-None.is, sym c.main_line-line.ensures)
    (sym (thinned-gives (walk c.args.models.now) line) ∙ ap (λ (steps : List Step). walk_gives steps line) (sym same)) in
    gives_same _ _ c.read_flat.result told c.read_flat.ensures

pub returns : goal.returns
returns c =
    let over = rw c.in-None-2.is at c.in_ok-flat.ensures.steps in
    let many = lt-ltb (2 ^ 18) (length (nets_of (walk c.args.models.now))) (over_names c.args.models.now c.in_ok-most.most c.in_ok-most.ensures.counted over) in
    rw (sym c.in_ok-fault.ensures ∙ c.in-None.is, many, c.too_large.ensures, c.main_line-line.ensures) refl
