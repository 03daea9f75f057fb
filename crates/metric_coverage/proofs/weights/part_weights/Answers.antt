use Rattle.std.proofs.Common.{◌≡◌, ◌<◌, List, length, ap, subst, sym, ◌∙◌, arith}
use Rattle.std.proofs.lemmas.List.{get_or-replicate, length-replicate}
use Rattle.fm_base.proofs.Lists.{written_whole}
use Rattle.campaign_plan.specs.Batches.{class_of_fault}
use Rattle.fmeda_report.specs.Tallies.{planes_in_order}
use Rattle.metric_coverage.specs.declared.weights.PartWeights.{PartWeights}
use Rattle.metric_coverage.specs.Freed.{evidence_at}
use Rattle.metric_coverage.specs.Weights.{AreWeighed, no_part, part_at}
use Rattle.metric_coverage.proofs.weights.part_weights.Goals as goal

pub weigh_faults-requires-clause-parts : goal.weigh_faults-requires-clause-parts
weigh_faults-requires-clause-parts c =
    let made : c.as_mut_slice.result.now ≡ c.in_ok-parts.parts.items = c.as_mut_slice.ensures.value in
    ap length (made ∙ c.in_ok-parts.ensures.items) ∙ length-replicate c.parts.result c.none.result ∙ c.parts.ensures.count

pub weigh_faults-requires-clause-none : goal.weigh_faults-requires-clause-none
weigh_faults-requires-clause-none c = λ k lt.
    let made = c.as_mut_slice.ensures.value ∙ c.in_ok-parts.ensures.items in
    let inside : k < c.parts.result = omega (arith, lt, ap length made, length-replicate c.parts.result c.none.result) in
    ap (λ (ps : List PartWeights). part_at ps k) made ∙ get_or-replicate c.parts.result k c.none.result no_part inside ∙ c.none.ensures

pub returns : goal.returns
returns c =
    let old = c.in_ok-parts.parts in
    let new : List PartWeights = c.weigh_faults.new.parts in
    let count : length new ≡ length old.items = c.weigh_faults.auto.parts ∙ ap length c.as_mut_slice.ensures.value in
    subst (AreWeighed c.args.plan.now (evidence_at c.args.evidence.now) (class_of_fault c.args.plan.now (planes_in_order c.args.planes.now)))
    (sym (written_whole new old.items old.len count old.ok.0)) c.weigh_faults.ensures
