use Rattle.std.proofs.Common.{ap, ap₂, [], ◌∷◌}
use Rattle.std.specs.Prelude.{codes}
use Rattle.fm_base.specs.Names.{Bytes}
use Rattle.refusals.proofs.Statuses.{plan_said, words_said}
use Rattle.refusals.proofs.refuse.refuse_plan.Goals as goal

pub returns-in-TooManyFaults : goal.returns-in-TooManyFaults
returns-in-TooManyFaults g c = plan_said _ _ c.args.no_rate.now c.args.has_rate.now c.args.cause.now _ c.in-TooManyFaults.is c.say.ensures

pub returns-in-MissingRate : goal.returns-in-MissingRate
returns-in-MissingRate g c =
    plan_said _ _ c.args.no_rate.now c.args.has_rate.now c.args.cause.now _ c.in-MissingRate.is
    (words_said _ _ _ _ (ap (λ (n : Bytes). c.args.no_rate.now ∷ n ∷ []) c.as_slice.ensures) c.say-in-MissingRate.ensures)

pub returns-in-IdleRate : goal.returns-in-IdleRate
returns-in-IdleRate g c =
    plan_said _ _ c.args.no_rate.now c.args.has_rate.now c.args.cause.now _ c.in-IdleRate.is
    (words_said _ _ _ _ (ap₂ (λ (n w : Bytes). codes "part" ∷ n ∷ c.args.has_rate.now ∷ w ∷ codes "rate and no such fault" ∷ []) c.as_slice-in-IdleRate.ensures c.rate_word.ensures)
    c.refuse_idle.ensures)

pub returns-in-Memory : goal.returns-in-Memory
returns-in-Memory g c = plan_said _ _ c.args.no_rate.now c.args.has_rate.now c.args.cause.now _ c.in-Memory.is c.say-in-Memory.ensures
