use Rattle.std.proofs.Common.{◌≡◌, ◌≤◌, ◌<◌, ◌+◌, ℕ, List, length, set, ap, sym, subst, ◌∙◌, arith}
use Rattle.std.proofs.lemmas.List.{length-set}
use Rattle.circuit.specs.declared.parts.Fault.{Fault}
use Rattle.circuit.specs.Effects.{is_permanent}
use Rattle.fault_list.specs.Faults.{fault_at}
use Rattle.metric_sums.specs.declared.Class.{Class}
use Rattle.campaign_plan.specs.Analysis.{fault_count, fault_numbered, part_count}
use Rattle.campaign_plan.specs.Batches.{class_of_fault}
use Rattle.campaign_plan.specs.Weights.{weight}
use Rattle.fmeda_report.specs.Tallies.{planes_in_order}
use Rattle.coverage.specs.declared.Evidence.{Evidence}
use Rattle.metric_coverage.specs.declared.weights.PartWeights.{PartWeights}
use Rattle.metric_coverage.specs.Freed.{evidence_at}
use Rattle.metric_coverage.specs.Weights.{IsPartLight, part_at, part_below, with_fault}
use Rattle.metric_coverage.proofs.Weighing.{none_weighed, one_light, part_light, weighed_more}
use Rattle.metric_coverage.proofs.weights.weigh_faults.Goals as goal

pub loop-i-init : goal.loop-i-init
loop-i-init c = λ k lt. c.requires.none k lt ∙ none_weighed c.args.plan.now (evidence_at c.args.evidence.now) (class_of_fault c.args.plan.now (planes_in_order c.args.planes.now)) k

pub add-requires-clause-light : goal.add-requires-clause-light
add-requires-clause-light c =
    let p = c.args.plan.now in
    let class : ℕ → Class = class_of_fault p (planes_in_order c.args.planes.now) in
    let count : c.len-i-end.result ≡ fault_count p = c.len-i-end.ensures.count ∙ ap length c.faults.ensures.value in
    let le : c.loop-i.i ≤ fault_count p = omega (arith, count, c.loop-i-test.true) in
    let there : c.part_of_fault.result < length c.loop-i.parts = omega (arith, c.part_of_fault.ensures.within, c.requires.parts, c.loop-i.auto.parts) in
    subst IsPartLight (sym (c.loop-i.invariant c.part_of_fault.result there))
    (part_light p (evidence_at c.args.evidence.now) class c.faults.ensures.plan.rates c.part_of_fault.result c.loop-i.i le)

pub add-requires-clause-weight : goal.add-requires-clause-weight
add-requires-clause-weight c =
    let p = c.args.plan.now in
    let count : c.len-i-end.result ≡ fault_count p = c.len-i-end.ensures.count ∙ ap length c.faults.ensures.value in
    let lt : c.loop-i.i < fault_count p = omega (arith, count, c.loop-i-test.true) in
    omega (arith, c.weight.ensures, one_light p c.faults.ensures.plan.rates c.loop-i.i lt)

pub loop-i-preserved : goal.loop-i-preserved
loop-i-preserved c = λ k below.
    let p = c.args.plan.now in
    let evidence : ℕ → Evidence = evidence_at c.args.evidence.now in
    let class : ℕ → Class = class_of_fault p (planes_in_order c.args.planes.now) in
    let i : ℕ = c.loop-i.i in
    let part : ℕ = c.part_of_fault.result in
    let old : PartWeights = part_at c.loop-i.parts part in
    let there : part < length c.loop-i.parts = omega (arith, c.part_of_fault.ensures.within, c.requires.parts, c.loop-i.auto.parts) in
    let fault = c.fault.ensures ∙ ap (λ (fs : List Fault). fault_at fs i) c.faults-in-loop-i.ensures.value in
    let permanent = c.permanent-permanent.ensures ∙ ap is_permanent fault in
    let added : c.add.new.self ≡ with_fault (is_permanent (fault_numbered p i)) (evidence i) (class i) (weight p i) old =
    c.add.ensures
    ∙ (λ j. with_fault (permanent j) (evidence i) (c.class_of_fault-class.ensures j) (c.weight.ensures j) old) in
    let lower : k < length c.loop-i.parts = omega (arith, below, length-set c.loop-i.parts part c.add.new.self) in
    subst (λ (t : PartWeights). part_at (set c.loop-i.parts part t) k ≡ part_below p evidence class k (i + 1)) (sym added)
    (weighed_more p evidence class c.loop-i.parts i part c.part_of_fault.ensures.value there c.loop-i.invariant k lower)

pub returns : goal.returns
returns c =
    let p = c.args.plan.now in
    let evidence : ℕ → Evidence = evidence_at c.args.evidence.now in
    let class : ℕ → Class = class_of_fault p (planes_in_order c.args.planes.now) in
    let count : c.len-i-end.result ≡ fault_count p = c.len-i-end.ensures.count ∙ ap length c.faults.ensures.value in
    let end : c.loop-i.i ≡ fault_count p = omega (arith, count, c.loop-i-test.false, c.loop-i.auto.i-end) in
    let size : length c.loop-i.parts ≡ part_count p = omega (arith, c.requires.parts, c.loop-i.auto.parts) in
    let all : (k : ℕ) → k < part_count p → part_at c.loop-i.parts k ≡ part_below p evidence class k (fault_count p) =
    λ k lt. subst (λ n. part_at c.loop-i.parts k ≡ part_below p evidence class k n) end (c.loop-i.invariant k (omega (arith, lt, size))) in
    record {
      count = size;
      each = all;
      light = λ k lt. subst IsPartLight (sym (all k lt)) (part_light p evidence class c.faults.ensures.plan.rates k (fault_count p) (omega arith));
    }
