use Rattle.std.proofs.Common.{◌≡◌, ◌+◌, ◌≤◌, ◌∙◌, ℕ, length, ap, ap₂, sym, subst, arith}
use Rattle.metric_sums.specs.declared.Class.{Class}
use Rattle.metric_sums.specs.Totals.{AreConsistent, AreSmall, plus, sums_by}
use Rattle.fm_base.specs.Lists.{below}
use Rattle.campaign_plan.specs.Analysis.{fault_count}
use Rattle.campaign_plan.specs.Batches.{class_of_fault}
use Rattle.campaign_plan.specs.Laws.{fault_share}
use Rattle.fmeda_report.specs.Tallies.{planes_in_order}
use Rattle.coverage.specs.Free.{freed}
use Rattle.metric_coverage.specs.Freed.{evidence_at, free_by}
use Rattle.metric_coverage.proofs.Summing.{first_consistent, no_fault, one_fault}
use Rattle.metric_coverage.proofs.free.sums_at.Goals as goal

pub loop-i-init : goal.loop-i-init
loop-i-init c =
    let p = c.args.plan.now in
    let class : ℕ → Class = class_of_fault p (planes_in_order c.args.planes.now) in
    c.none-sums.ensures ∙ no_fault p (freed p (free_by c.args.free (evidence_at c.args.evidence.now) class) class c.args.end)

pub plus-sums-requires : goal.plus-sums-requires
plus-sums-requires c =
    let p = c.args.plan.now in
    let i : ℕ = c.loop-i.i in
    let class : ℕ → Class = class_of_fault p (planes_in_order c.args.planes.now) in
    let own : ℕ → Class = freed p (free_by c.args.free (evidence_at c.args.evidence.now) class) class c.args.end in
    let step = ap₂ plus c.loop-i.invariant c.freed_share.ensures ∙ sym (one_fault p own i) in
    subst AreSmall (sym step) (first_consistent p own c.faults.ensures.plan (i + 1) (omega (arith, c.loop-i-test.true, c.len-i-end.ensures.count, ap length c.faults.ensures.value))).small

pub loop-i-preserved : goal.loop-i-preserved
loop-i-preserved c =
    let p = c.args.plan.now in
    let class : ℕ → Class = class_of_fault p (planes_in_order c.args.planes.now) in
    let own : ℕ → Class = freed p (free_by c.args.free (evidence_at c.args.evidence.now) class) class c.args.end in
    c.plus-sums.ensures ∙ ap₂ plus c.loop-i.invariant c.freed_share.ensures ∙ sym (one_fault p own c.loop-i.i)

pub returns-clause-sums : goal.returns-clause-sums
returns-clause-sums c =
    let p = c.args.plan.now in
    let class : ℕ → Class = class_of_fault p (planes_in_order c.args.planes.now) in
    let own : ℕ → Class = freed p (free_by c.args.free (evidence_at c.args.evidence.now) class) class c.args.end in
    let end : c.loop-i.i ≡ fault_count p = omega (arith, c.loop-i-test.false, c.loop-i.auto.i-end, c.len-i-end.ensures.count, ap length c.faults.ensures.value) in
    c.loop-i.invariant ∙ ap (λ n. sums_by (fault_share p own) (below n)) end

pub returns-clause-consistent : goal.returns-clause-consistent
returns-clause-consistent c =
    let p = c.args.plan.now in
    let class : ℕ → Class = class_of_fault p (planes_in_order c.args.planes.now) in
    let own : ℕ → Class = freed p (free_by c.args.free (evidence_at c.args.evidence.now) class) class c.args.end in
    let le : c.loop-i.i ≤ fault_count p = omega (arith, c.loop-i.auto.i-end, c.len-i-end.ensures.count, ap length c.faults.ensures.value) in
    subst AreConsistent (sym c.loop-i.invariant) (first_consistent p own c.faults.ensures.plan c.loop-i.i le)
