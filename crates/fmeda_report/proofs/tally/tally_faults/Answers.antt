use Rattle.std.proofs.Common.{◌≡◌, ◌≤◌, ◌<◌, ◌^◌, ◌+◌, length, set, ap, sym, subst, ◌∙◌, arith}
use Rattle.std.proofs.lemmas.List.{length-set}
use Rattle.campaign_plan.specs.Analysis.{fault_count}
use Rattle.campaign_plan.specs.Batches.{class_of_fault}
use Rattle.campaign_plan.specs.Weights.{weight}
use Rattle.fmeda_report.specs.declared.tally.Tally.{Tally}
use Rattle.fmeda_report.specs.Tallies.{planes_in_order, tally_at, with_fault, AreAmountsSmall}
use Rattle.fmeda_report.proofs.Tallying.{tallied, tallied_more, tally_start, small_part, weight_light}
use Rattle.fmeda_report.proofs.tally.tally_faults.Goals as goal

pub loop-i-init : goal.loop-i-init
loop-i-init c k below = c.clear.ensures k below ∙ tally_start c.args.plan.now (planes_in_order c.args.planes.now) k

pub add-requires-clause-small : goal.add-requires-clause-small
add-requires-clause-small c =
    let p = c.args.plan.now in
    let planes = planes_in_order c.args.planes.now in
    let count : c.len-i-end.result ≡ fault_count p = c.len-i-end.ensures.count ∙ ap length c.faults.ensures.value in
    let few : fault_count p ≤ 2 ^ 20 = omega (arith, count, c.len-i-end.ensures.count, c.len-i-end.ensures.few) in
    let le : c.loop-i.i ≤ fault_count p = omega (arith, count, c.loop-i-test.true) in
    let there : c.part_of_fault.result < length c.loop-i.tallies = omega (arith, c.part_of_fault.ensures.within, c.requires.parts, c.loop-i.auto.tallies, c.clear.auto.tallies) in
    subst AreAmountsSmall (sym (c.loop-i.invariant c.part_of_fault.result there))
    (small_part p planes c.part_of_fault.result c.loop-i.i c.faults.ensures.plan.rates few le)

pub add-requires-clause-light : goal.add-requires-clause-light
add-requires-clause-light c =
    let p = c.args.plan.now in
    let count : c.len-i-end.result ≡ fault_count p = c.len-i-end.ensures.count ∙ ap length c.faults.ensures.value in
    let lt : c.loop-i.i < fault_count p = omega (arith, count, c.loop-i-test.true) in
    omega (arith, c.weight.ensures, weight_light p c.faults.ensures.plan.rates c.loop-i.i lt)

pub loop-i-preserved : goal.loop-i-preserved
loop-i-preserved c k below =
    let p = c.args.plan.now in
    let planes = planes_in_order c.args.planes.now in
    let i = c.loop-i.i in
    let part = c.part_of_fault.result in
    let there : part < length c.loop-i.tallies = omega (arith, c.part_of_fault.ensures.within, c.requires.parts, c.loop-i.auto.tallies, c.clear.auto.tallies) in
    let added : c.add.new.self ≡ with_fault (class_of_fault p planes i) (weight p i) (tally_at c.loop-i.tallies part) =
    c.add.ensures ∙ ap (λ class. with_fault class c.weight.result (tally_at c.loop-i.tallies part)) c.class_of_fault-class.ensures
    ∙ ap (λ w. with_fault (class_of_fault p planes i) w (tally_at c.loop-i.tallies part)) c.weight.ensures in
    let lower : k < length c.loop-i.tallies = omega (arith, below, length-set c.loop-i.tallies part c.add.new.self) in
    subst (λ (t : Tally). tallied p planes (set c.loop-i.tallies part t) (i + 1) k) (sym added)
    (tallied_more p planes c.loop-i.tallies i part c.part_of_fault.ensures.value there c.loop-i.invariant k lower)

pub returns-clause-tallied : goal.returns-clause-tallied
returns-clause-tallied c = record {
  each = λ k lt.
      let p = c.args.plan.now in
      let count : c.len-i-end.result ≡ fault_count p = c.len-i-end.ensures.count ∙ ap length c.faults.ensures.value in
      let end : c.loop-i.i ≡ fault_count p = omega (arith, count, c.loop-i-test.false, c.loop-i.auto.i-end) in
      let there : k < length c.loop-i.tallies = omega (arith, lt, c.requires.parts, c.loop-i.auto.tallies, c.clear.auto.tallies) in
      subst (λ n. tallied p (planes_in_order c.args.planes.now) c.loop-i.tallies n k) end (c.loop-i.invariant k there);
}

pub returns-clause-small : goal.returns-clause-small
returns-clause-small c k lt =
    let p = c.args.plan.now in
    let planes = planes_in_order c.args.planes.now in
    let count : c.len-i-end.result ≡ fault_count p = c.len-i-end.ensures.count ∙ ap length c.faults.ensures.value in
    let few : fault_count p ≤ 2 ^ 20 = omega (arith, count, c.len-i-end.ensures.count, c.len-i-end.ensures.few) in
    let le : c.loop-i.i ≤ fault_count p = omega (arith, count, c.loop-i.auto.i-end) in
    let there : k < length c.loop-i.tallies = omega (arith, lt, c.requires.parts, c.loop-i.auto.tallies, c.clear.auto.tallies) in
    subst AreAmountsSmall (sym (c.loop-i.invariant k there)) (small_part p planes k c.loop-i.i c.faults.ensures.plan.rates few le)
