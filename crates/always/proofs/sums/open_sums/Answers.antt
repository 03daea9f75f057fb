use Rattle.std.proofs.Common.{◌≡◌, ◌+◌, ◌≤◌, ◌∙◌, ℕ, length, ap, ap₂, sym, subst, arith}
use Rattle.metric_sums.specs.declared.Class.{Class}
use Rattle.metric_sums.specs.Totals.{AreConsistent, AreSmall, plus, sums_by}
use Rattle.fm_base.specs.Lists.{below}
use Rattle.campaign_plan.specs.Analysis.{fault_count}
use Rattle.campaign_plan.specs.Laws.{fault_share}
use Rattle.always.specs.Steps.{open_class}
use Rattle.always.specs.Verdict.{verdict_at}
use Rattle.always.proofs.Summing.{first_consistent, no_fault, one_fault}
use Rattle.always.proofs.sums.open_sums.Goals as goal

pub loop-i-init : goal.loop-i-init
loop-i-init c =
    let p = c.args.plan.now in
    c.none-sums.ensures ∙ no_fault p (open_class p c.args.counting (verdict_at p c.args.from c.args.answers.now))

pub plus-sums-requires : goal.plus-sums-requires
plus-sums-requires c =
    let p = c.args.plan.now in
    let i : ℕ = c.loop-i.i in
    let own : ℕ → Class = open_class p c.args.counting (verdict_at p c.args.from c.args.answers.now) in
    let step = ap₂ plus c.loop-i.invariant c.open_share.ensures ∙ sym (one_fault p own i) in
    subst AreSmall (sym step) (first_consistent p own c.faults.ensures.plan (i + 1) (omega (arith, c.loop-i-test.true, c.len-i-end.ensures.count, ap length c.faults.ensures.value))).small

pub loop-i-preserved : goal.loop-i-preserved
loop-i-preserved c =
    let p = c.args.plan.now in
    let own : ℕ → Class = open_class p c.args.counting (verdict_at p c.args.from c.args.answers.now) in
    c.plus-sums.ensures ∙ ap₂ plus c.loop-i.invariant c.open_share.ensures ∙ sym (one_fault p own c.loop-i.i)

pub returns-clause-sums : goal.returns-clause-sums
returns-clause-sums c =
    let p = c.args.plan.now in
    let own : ℕ → Class = open_class p c.args.counting (verdict_at p c.args.from c.args.answers.now) in
    let end : c.loop-i.i ≡ fault_count p = omega (arith, c.loop-i-test.false, c.loop-i.auto.i-end, c.len-i-end.ensures.count, ap length c.faults.ensures.value) in
    c.loop-i.invariant ∙ ap (λ n. sums_by (fault_share p own) (below n)) end

pub returns-clause-consistent : goal.returns-clause-consistent
returns-clause-consistent c =
    let p = c.args.plan.now in
    let own : ℕ → Class = open_class p c.args.counting (verdict_at p c.args.from c.args.answers.now) in
    let le : c.loop-i.i ≤ fault_count p = omega (arith, c.loop-i.auto.i-end, c.len-i-end.ensures.count, ap length c.faults.ensures.value) in
    subst AreConsistent (sym c.loop-i.invariant) (first_consistent p own c.faults.ensures.plan c.loop-i.i le)
