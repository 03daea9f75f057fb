use Rattle.std.proofs.Common.{ap, ◌∙◌}
use Rattle.std.specs.Prelude.{option_and_then}
use Rattle.blif_hierarchy.specs.Numbered.{first_numbered}
use Rattle.blif_hierarchy.proofs.Numbers.{model_line}
use Rattle.blif_hierarchy.proofs.numbered.main_line.Goals as goal

pub returns-in-Some : goal.returns-in-Some
returns-in-Some c = λ f e.
    c.first_numbered.ensures f e ∙ model_line c.args.models.now f c.args.number c.in-Some.model
    ∙ ap (option_and_then (first_numbered c.args.models.now f c.args.number)) c.in-Some.ensures

pub returns-in-None : goal.returns-in-None
returns-in-None c = λ f e. ap (option_and_then (first_numbered c.args.models.now f c.args.number)) c.in-None.ensures
