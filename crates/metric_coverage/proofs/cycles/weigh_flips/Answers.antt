use Rattle.std.proofs.Common.{◌≡◌, ◌<◌, ◌∙◌, ℕ, length, ap, subst, sym, arith}
use Rattle.campaign_plan.specs.Analysis.{fault_count}
use Rattle.metric_coverage.specs.Cycles.{IsCycleLight, cycle_at, cycle_below}
use Rattle.metric_coverage.specs.Freed.{evidence_at}
use Rattle.metric_coverage.proofs.Flipping.{cycle_light, none_flipped}
use Rattle.metric_coverage.proofs.cycles.weigh_flips.Goals as goal

pub loop-i-init : goal.loop-i-init
loop-i-init c = λ k lt. c.requires.none k lt ∙ none_flipped c.args.plan.now (evidence_at c.args.evidence.now) k

pub weigh_fault-requires-clause-fault : goal.weigh_fault-requires-clause-fault
weigh_fault-requires-clause-fault c =
    let count : c.len-i-end.result ≡ fault_count c.args.plan.now = c.len-i-end.ensures.count ∙ ap length c.faults.ensures.value in
    omega (arith, count, c.loop-i-test.true)

pub returns : goal.returns
returns c =
    let p = c.args.plan.now in
    let count : c.len-i-end.result ≡ fault_count p = c.len-i-end.ensures.count ∙ ap length c.faults.ensures.value in
    let end : c.loop-i.i ≡ fault_count p = omega (arith, count, c.loop-i-test.false, c.loop-i.auto.i-end) in
    let all : (k : ℕ) → k < length c.loop-i.cycles → cycle_at c.loop-i.cycles k ≡ cycle_below p (evidence_at c.args.evidence.now) k (fault_count p) =
    λ k lt. subst (λ n. cycle_at c.loop-i.cycles k ≡ cycle_below p (evidence_at c.args.evidence.now) k n) end (c.loop-i.invariant k lt) in
    record {
      each = all;
      light = λ k lt. subst IsCycleLight (sym (all k lt)) (cycle_light p (evidence_at c.args.evidence.now) c.faults.ensures.plan.rates k (fault_count p) (omega arith));
    }
