use Rattle.std.proofs.Common.{◌∙◌, sym}
use Rattle.refusals.proofs.Refusals.{said_by, said_looped}
use Rattle.refusals.proofs.refuse.say_refused.Goals as goal

pub returns-in-By-clause-said : goal.returns-in-By-clause-said
returns-in-By-clause-said g c = λ held nets. said_by held _ _ _ c.args.refused _ c.in-By.is nets (λ k names. c.refuse.ensures k names)

pub returns-in-Looped-clause-said : goal.returns-in-Looped-clause-said
returns-in-Looped-clause-said g c = λ held nets. said_looped held _ _ _ c.args.refused _ _ c.in-Looped.is nets (λ k names. c.refuse-in-Looped.ensures k (names ∙ sym c.names.ensures.value))
