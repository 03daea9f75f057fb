use Rattle.std.proofs.Common.{ap, ◌∙◌, arith}
use Rattle.std.proofs.lemmas.Grind.{common_steps}
use Rattle.campaign_plan.specs.Analysis.{Analysis, fault_count}
use Rattle.campaign_plan.specs.Weights.{weight}
use Rattle.campaign_plan.proofs.Tabled.{length_table, table_at}
use Rattle.campaign_plan.proofs.Plan.weight.Goals as goal

pub index-requires : goal.index-requires
index-requires c =
    let size = length_table (weight _) _ c.self.inside.weights.items c.self.invariant.weighed in
    let count = ap fault_count c.self.view_is in
    grind (arith, common_steps, size, count, c.requires)

pub returns : goal.returns
returns c =
    let count = ap fault_count c.self.view_is in
    let here = table_at (weight _) _ c.self.inside.weights.items c.args.i c.index.result.now c.self.invariant.weighed (omega (arith, count, c.requires)) in
    c.index.ensures ∙ here ∙ ap (λ (p : Analysis). weight p c.args.i) c.self.view_is
