use Rattle.std.proofs.Common.{◌<◌, ◌∙◌, ℕ, List, [], ◌∷◌, ◌++◌, length, map, ap, ap₂, sym, arith, refl, add-one}
use Rattle.std.proofs.lemmas.List.{take_more_set}
use Rattle.campaign_plan.specs.declared.Outcome.{Outcome}
use Rattle.fm_base.specs.Lists.{below}
use Rattle.fm_base.proofs.Below.{map-below}
use Rattle.fault_collapse.specs.Chosen.{planes_shown}
use Rattle.fault_collapse.proofs.spread.spread.Goals as goal

pub loop-batch-init : goal.loop-batch-init
unfolding below
loop-batch-init c = refl

pub loop-batch-preserved : goal.loop-batch-preserved
loop-batch-preserved c =
    let shown : ℕ → Outcome = planes_shown c.args.collapse.now c.args.places.now c.args.found.now in
    let b : ℕ = c.loop-batch.batch in
    let list : List Outcome = c.loop-batch.list in
    let within : b < length list = omega (arith, c.loop-batch-test.true, c.loop-batch.auto.list) in
    take_more_set list b c.planes_of.result within
    ∙ ap₂ (λ (xs : List Outcome) (x : Outcome). xs ++ x ∷ []) c.loop-batch.invariant c.planes_of.ensures
    ∙ sym (map-below shown b)
    ∙ ap (λ n. map shown (below n)) (sym (add-one b))
