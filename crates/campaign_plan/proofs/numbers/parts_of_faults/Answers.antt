use Rattle.std.proofs.Common.{◌≡◌, ◌+◌, ap, sym, subst, ◌∙◌, arith}
use Rattle.std.specs.Prelude.{length, map, take, All, ◌<◌}
use Rattle.fault_list.specs.Faults.{fault_at}
use Rattle.campaign_plan.specs.Analysis.{all_faults, part_of, part_count}
use Rattle.campaign_plan.specs.Making.{analysis}
use Rattle.campaign_plan.proofs.PartNumbers.{faults_push, net_in_table}
use Rattle.campaign_plan.proofs.numbers.parts_of_faults.Goals as goal

pub bounds-parts-net : goal.bounds-parts-net
bounds-parts-net c =
    let p = analysis c.args.p.now in
    let size = c.len-i-end.ensures.count ∙ ap length c.requires.listed in
    net_in_table p c.args.parts.now c.loop-i.i c.net_of-net.result.0 c.fault.result c.requires.parts c.requires.sound (omega (arith, size, c.loop-i-test.true))
    (c.fault.ensures ∙ ap (λ fs. fault_at fs c.loop-i.i) c.requires.listed) c.net_of-net.ensures

pub loop-i-preserved : goal.loop-i-preserved
loop-i-preserved c =
    let p = analysis c.args.p.now in
    let size = c.len-i-end.ensures.count ∙ ap length c.requires.listed in
    let lt : c.loop-i.i < length (all_faults p) = omega (arith, size, c.loop-i-test.true) in
    let items = c.in_ok-push.ensures.items in
    subst (λ ns. (ns ≡ map (part_of p) (take (c.loop-i.i + 1) (all_faults p))) × All (λ number. number < part_count p) ns) (sym items)
    (faults_push p c.args.parts.now c.loop-i.numbers.items c.loop-i.i c.fault.result 0 c.net_of-net.result.0 c.requires.parts c.requires.sound c.loop-i.invariant lt
    (c.fault.ensures ∙ ap (λ fs. fault_at fs c.loop-i.i) c.requires.listed) c.net_of-net.ensures)
