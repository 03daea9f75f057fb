use Rattle.std.proofs.Common.{◌≡◌, ◌∙◌, ℕ, List, [], ◌∷◌, get_or, map, refl, ap, sym}
use Rattle.std.specs.Prelude.{Option, None}
use Rattle.campaign_plan.specs.declared.Outcome.{Outcome}
use Rattle.classifier.specs.Batch.{batch_at, outcome_for}
use Rattle.classifier.specs.Planes.{outcome_at}
use Rattle.classifier.specs.Simulated.{Simulated, planes_simulated}
use Rattle.classifier.proofs.batch_simulator.BatchSimulator.simulate_from.Goals as goal

-- the first planes are those of the first batch
first_planes : (planes : Option ℕ → Outcome) (none : Outcome) (batches : List (Option ℕ)) → planes None ≡ none → get_or (map planes batches) 0 none ≡ planes (batch_at batches 0)
first_planes planes none [] e = sym e
first_planes planes none (batch ∷ batches) e = refl

pub returns-clause-outcome : goal.returns-clause-outcome
returns-clause-outcome c =
    let bench = c.self.inside.bench in
    let found : Option ℕ → Outcome = outcome_for bench.circuit bench.points c.self.inside.simulator.ftti bench.runs c.self.inside.faults.now in
    ap (λ (planes : List Outcome). outcome_at planes 0) c.quad-self-inside.ensures.outcomes
    ∙ first_planes found (outcome_at [] 0) c.four_from-self-inside.result refl
    ∙ ap found c.four_from-self-inside.ensures
    ∙ ap (λ (s : Simulated). planes_simulated s c.args.batch) c.self.view_is
