use Rattle.std.proofs.Common.{◌≡◌, ◌+◌, ap, sym, subst, ◌∙◌, arith}
use Rattle.std.specs.Prelude.{option_map, Some}
use Rattle.campaign_plan.specs.declared.PlanRefusal.TheVariants.{MissingRate}
use Rattle.circuit.specs.Names.{net_name}
use Rattle.campaign_plan.specs.Steps.{unrated_net}
use Rattle.rate_table.specs.Table.{part_named}
use Rattle.campaign_plan.specs.Making.{analysis}
use Rattle.campaign_plan.proofs.PartNumbers.{HasParts, no_parts, parts_push, net_without}
use Rattle.campaign_plan.proofs.numbers.parts_of_nets.Goals as goal

pub loop-n-init : goal.loop-n-init
loop-n-init c = subst (HasParts (analysis c.args.p.now) 0) (sym c.new-parts.ensures) (no_parts (analysis c.args.p.now))

pub loop-n-preserved : goal.loop-n-preserved
loop-n-preserved c =
    let p = analysis c.args.p.now in
    subst (HasParts p (c.loop-n.n + 1)) (sym c.in_ok-push-in-Some.ensures.ok)
    (parts_push p c.part_of.ensures.sound c.loop-n.n c.loop-n.parts c.in-Some.part c.loop-n.invariant (ap (part_named c.args.p.now.rates) (sym c.name-name.ensures.value) ∙ sym c.in-Some.ensures.value))

pub returns-in-None : goal.returns-in-None
returns-in-None c =
    let p = analysis c.args.p.now in
    let n = c.loop-n.n in
    let found : unrated_net p ≡ Some n = net_without p n c.loop-n.parts c.loop-n.invariant (omega (arith, c.loop-n-test.true, c.nets-n-end.ensures.count)) (ap (part_named c.args.p.now.rates) (sym c.name-name.ensures.value) ∙ sym c.in-None.ensures.value) in
    let name : c.in_ok-name_of-in-None.field-0 ≡ net_name c.args.p.now.net n = c.in_ok-name_of-in-None.ensures ∙ c.name-name.ensures.value in
    ap (option_map (λ net. MissingRate (record { 0 = net }) (net_name c.args.p.now.net net))) found
    ∙ ap (λ text. Some (MissingRate (record { 0 = n }) text)) (sym name)
