use Rattle.std.proofs.Common.{◌<◌, refl, ap, sym, ◌∙◌, arith, length, get_or}
use Rattle.std.specs.Prelude.{Some, option_map}
use Rattle.campaign_plan.specs.declared.PlanRefusal.TheVariants.{IdleRate}
use Rattle.fm_base.specs.Lists.{below}
use Rattle.campaign_plan.specs.Making.{analysis}
use Rattle.campaign_plan.specs.Analysis.{part_count}
use Rattle.campaign_plan.specs.Steps.{idle_rate_of}
use Rattle.campaign_plan.proofs.Sharing.{idle_more, idle_at, idle_by, part_there}
use Rattle.campaign_plan.proofs.shares.refuse_idle.Goals as goal

pub loop-k-init : goal.loop-k-init
unfolding below
loop-k-init c = refl

pub returns-in-Some : goal.returns-in-Some
returns-in-Some c =
    let p = analysis c.args.p.now in
    let k = c.loop-k.k in
    let parts = c.parts-part-items.ensures.value in
    let lt : k < part_count p = omega (arith, ap length parts, c.loop-k-test.true) in
    let own = part_there p k c.parts-part-items.result.now c.part-item.result parts c.part-item.is lt in
    let by = idle_by p k (get_or c.args.of_permanent.now k 0) (get_or c.args.of_transient.now k 0) c.part-item.result own (c.requires.permanent.each k lt) (c.requires.transient.each k lt) in
    idle_at (idle_rate_of p) (IdleRate c.in_ok-part.part c.in-Some.permanent) (part_count p) k lt c.loop-k.invariant
    (by ∙ ap (option_map (λ permanent. IdleRate c.part-item.result.name permanent)) (sym c.in-Some.ensures)
    ∙ ap (λ name. Some (IdleRate name c.in-Some.permanent)) (sym (c.in_ok-part.ensures ∙ c.as_slice.ensures)))

pub loop-k-preserved : goal.loop-k-preserved
loop-k-preserved c =
    let p = analysis c.args.p.now in
    let k = c.loop-k.k in
    let parts = c.parts-part-items.ensures.value in
    let lt : k < part_count p = omega (arith, ap length parts, c.loop-k-test.true) in
    let own = part_there p k c.parts-part-items.result.now c.part-item.result parts c.part-item.is lt in
    let by = idle_by p k (get_or c.args.of_permanent.now k 0) (get_or c.args.of_transient.now k 0) c.part-item.result own (c.requires.permanent.each k lt) (c.requires.transient.each k lt) in
    idle_more (idle_rate_of p) k c.loop-k.invariant (by ∙ ap (option_map (λ permanent. IdleRate c.part-item.result.name permanent)) (sym c.idle_kind.ensures ∙ c.in_default.is))
