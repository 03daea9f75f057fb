use Rattle.std.proofs.Common.{◌≡◌, ◌≤◌, ◌<◌, ◌^◌, ℕ, Bool, List, length, ap, sym, subst, ◌∙◌, arith}
use Rattle.circuit.specs.declared.parts.Fault.{Fault}
use Rattle.circuit.specs.Effects.{is_permanent}
use Rattle.fault_list.specs.Faults.{fault_at}
use Rattle.metric_sums.specs.declared.Class.{Class}
use Rattle.campaign_plan.specs.Analysis.{fault_count}
use Rattle.campaign_plan.specs.Batches.{class_of_fault}
use Rattle.fmeda_report.specs.Tallies.{planes_in_order}
use Rattle.metric_coverage.specs.Amounts.{IsAmountSmall, amount_below, with_free}
use Rattle.metric_coverage.specs.Freed.{evidence_at, free_by, is_free}
use Rattle.metric_coverage.proofs.Counting.{amount_small, none_counted, none_free, one_free}
use Rattle.metric_coverage.proofs.Weighing.{one_light}
use Rattle.metric_coverage.proofs.amount.free_amount.Goals as goal
use Rattle.metric_coverage.proofs.amount.free_amount.Goals.{then-is_free, else-is_free}

pub loop-i-init : goal.loop-i-init
loop-i-init c =
    let p = c.args.plan.now in
    let free : ℕ → Bool = free_by c.args.free (evidence_at c.args.evidence.now) (class_of_fault p (planes_in_order c.args.planes.now)) in
    c.none-amount.ensures ∙ none_counted p free

pub add-requires-clause-small : goal.add-requires-clause-small
add-requires-clause-small c =
    let p = c.args.plan.now in
    let free : ℕ → Bool = free_by c.args.free (evidence_at c.args.evidence.now) (class_of_fault p (planes_in_order c.args.planes.now)) in
    let count : c.len-i-end.result ≡ fault_count p = c.len-i-end.ensures.count ∙ ap length c.faults.ensures.value in
    let few : fault_count p ≤ 2 ^ 20 = omega (arith, count, c.len-i-end.ensures.few) in
    let le : c.loop-i.i ≤ fault_count p = omega (arith, count, c.loop-i-test.true) in
    subst IsAmountSmall (sym c.loop-i.invariant) (amount_small p free c.faults.ensures.plan.rates few c.loop-i.i le)

pub add-requires-clause-weight : goal.add-requires-clause-weight
add-requires-clause-weight c =
    let p = c.args.plan.now in
    let count : c.len-i-end.result ≡ fault_count p = c.len-i-end.ensures.count ∙ ap length c.faults.ensures.value in
    let lt : c.loop-i.i < fault_count p = omega (arith, count, c.loop-i-test.true) in
    omega (arith, c.weight.ensures, one_light p c.faults.ensures.plan.rates c.loop-i.i lt)

pub loop-i-preserved : goal.loop-i-preserved
loop-i-preserved c =
    let p = c.args.plan.now in
    let i : ℕ = c.loop-i.i in
    let class : ℕ → Class = class_of_fault p (planes_in_order c.args.planes.now) in
    let free : ℕ → Bool = free_by c.args.free (evidence_at c.args.evidence.now) class in
    let test = ap (is_free c.args.free (evidence_at c.args.evidence.now i)) (sym c.class_of_fault-class.ensures) ∙ sym c.is_free.ensures in
    elim c.if-is_free.branch [
      | then-is_free w ↦
          let fault = w.fault.ensures ∙ ap (λ (fs : List Fault). fault_at fs i) w.faults-then-is_free.ensures.value in
          let permanent = w.permanent.ensures ∙ ap is_permanent fault in
          w.amount-is ∙ w.add.ensures ∙ (λ j. with_free (permanent j) (w.weight.ensures j) (c.loop-i.invariant j)) ∙ sym (one_free p free i (test ∙ w.if-is_free.true))
      | else-is_free w ↦ w.amount-is ∙ c.loop-i.invariant ∙ sym (none_free p free i (test ∙ w.if-is_free.false))
    ]

pub returns : goal.returns
returns c =
    let p = c.args.plan.now in
    let free : ℕ → Bool = free_by c.args.free (evidence_at c.args.evidence.now) (class_of_fault p (planes_in_order c.args.planes.now)) in
    let count : c.len-i-end.result ≡ fault_count p = c.len-i-end.ensures.count ∙ ap length c.faults.ensures.value in
    let end : c.loop-i.i ≡ fault_count p = omega (arith, count, c.loop-i-test.false, c.loop-i.auto.i-end) in
    c.loop-i.invariant ∙ ap (amount_below p free) end
