use Rattle.std.proofs.Common.{◌≡◌, ℕ, List, ap, ap₂, ◌∙◌}
use Rattle.circuit.specs.declared.parts.Fault.{Fault}
use Rattle.circuit.specs.Circuit.{Circuit}
use Rattle.workload.specs.declared.run.Run.{Run}
use Rattle.alarm_points.specs.declared.Points.{Points}
use Rattle.campaign_plan.specs.Analysis.{Analysis}
use Rattle.campaign_plan.specs.Danger.{is_dangerous}
use Rattle.campaign_plan.specs.declared.Outcome.{Outcome}
use Rattle.classifier.specs.Planes.{planes_of}
use Rattle.classifier.specs.Simulator.{Simulator, listed}
use Rattle.classifier.proofs.PlaneBits.{planes_have}
use Rattle.fm_base.specs.Planes.{bit}
use Rattle.pair_campaign.proofs.worker.outcomes_of.Goals as goal

pub returns-clause-shown : goal.returns-clause-shown
returns-clause-shown c = λ word lt k lane.
    let p : Analysis = c.args.plan.now in
    let lanes : ℕ → List Fault = listed c.lists_of-lists.result word in
    let bench = c.args.bench.now in
    let is = c.requires.bench in
    let interval : c.args.simulator.now.ftti ≡ p.settings.ftti = ap (λ (s : Simulator). s.ftti) c.requires.simulator in
    let same : planes_of bench.circuit bench.points c.args.simulator.now.ftti bench.runs lanes ≡ planes_of p.circuit p.points p.settings.ftti p.runs lanes =
    ap₂ (λ (net : Circuit) (points : Points). planes_of net points c.args.simulator.now.ftti bench.runs lanes) is.circuit is.points
    ∙ ap₂ (λ (ftti : ℕ) (runs : List Run). planes_of p.circuit p.points ftti runs lanes) interval is.runs in
    ap (λ (o : Outcome). bit o.danger k) (c.lists.ensures.outcomes word lt ∙ same)
    ∙ (planes_have p.circuit p.points p.settings.ftti p.runs lanes).danger k lane
    ∙ ap (is_dangerous p.circuit p.points p.settings.ftti p.runs) (c.lists_of-lists.ensures word k lt lane)
