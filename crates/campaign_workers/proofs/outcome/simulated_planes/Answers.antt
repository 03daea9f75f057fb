use Rattle.std.proofs.Common.{map, ◌∙◌}
use Rattle.classifier.specs.Batch.{outcome_for}
use Rattle.classifier.proofs.OfPlan.{of_plan}
use Rattle.campaign_workers.proofs.outcome.simulated_planes.Goals as goal

pub returns-clause-planes : goal.returns-clause-planes
returns-clause-planes c =
    c.quad.ensures.outcomes
    ∙ of_plan (λ net points ftti runs faults. map (outcome_for net points ftti runs faults) c.args.batches.now) c.args.plan.now c.args.bench.now c.args.simulator.now c.faults.result.now
    c.requires.bench c.requires.simulator c.faults.ensures.value
