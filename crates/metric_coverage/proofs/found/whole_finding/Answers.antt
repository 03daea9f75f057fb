use Rattle.std.proofs.Common.{◌≡◌, ◌<◌, ℕ, Bool, List, length, refl, ap, subst, sym, ◌∙◌, arith}
use Rattle.circuit.specs.Circuit.{Circuit}
use Rattle.circuit.specs.Value.{bit_at}
use Rattle.alarm_points.specs.declared.Points.{Points}
use Rattle.alarm_points.specs.PointsKept.{ArePointsFor}
use Rattle.campaign_plan.specs.declared.Outcome.{Outcome}
use Rattle.campaign_plan.specs.Analysis.{fault_count, fault_numbered}
use Rattle.reach.specs.Reached.{Reached}
use Rattle.coverage.specs.Evidence.{may_reach}
use Rattle.metric_coverage.specs.Findings.{IsFindingBy}
use Rattle.metric_coverage.specs.Paths.{with_points}
use Rattle.metric_coverage.specs.Planes.{table_at}
use Rattle.metric_coverage.specs.Spoken.{AreToldOf}
use Rattle.metric_coverage.proofs.Telling.{table_size, tables_count, whole_told}
use Rattle.metric_coverage.proofs.found.whole_finding.Goals as goal

pub path_list-requires-clause-made : goal.path_list-requires-clause-made
path_list-requires-clause-made c = ap (λ (r : Reached). r.circuit) c.reach.ensures.made ∙ c.requires.bench.circuit

pub path_list-requires-clause-points : goal.path_list-requires-clause-points
path_list-requires-clause-points c =
    subst (λ (circuit : Circuit). ArePointsFor circuit c.reach.result.now.points) c.requires.bench.circuit
    (subst (λ (points : Points). ArePointsFor c.args.bench.now.circuit points) (sym (ap (λ (r : Reached). r.points) c.reach.ensures.made)) c.reach.ensures.fit)

pub planes_by-planes-requires : goal.planes_by-planes-requires
planes_by-planes-requires c = omega (arith, tables_count c.pairs_give_plans.ensures.plans c.args.plan.now c.args.tables.now c.requires.tables)

pub planes_by-bare-requires : goal.planes_by-bare-requires
planes_by-bare-requires c = omega (arith, tables_count c.pairs_give_plans.ensures.plans c.args.plan.now c.args.tables.now c.requires.tables)

pub finding_of-requires-clause-planes : goal.finding_of-requires-clause-planes
finding_of-requires-clause-planes c =
    ap length c.planes_by-planes.ensures ∙ table_size c.pairs_give_plans.ensures.plans c.args.plan.now c.args.tables.now c.requires.tables 0 (omega arith)

pub finding_of-requires-clause-bare : goal.finding_of-requires-clause-bare
finding_of-requires-clause-bare c =
    ap length c.planes_by-bare.ensures ∙ table_size c.pairs_give_plans.ensures.plans c.args.plan.now c.args.tables.now c.requires.tables 1 (omega arith)

pub returns : goal.returns
returns c =
    let p = c.args.plan.now in
    let tables = c.args.tables.now in
    let planes : List Outcome = c.planes_by-planes.result.now in
    let bare : List Outcome = c.planes_by-bare.result.now in
    let path : List Bool = c.deref.result.now in
    let excited : List Bool = c.args.excited.now in
    let points = ap (λ (r : Reached). r.points) c.reach.ensures.made ∙ c.requires.bench.points in
    let reaches : (i : ℕ) → i < fault_count p → bit_at path i ≡ may_reach p (fault_numbered p i) =
    λ i lt. ap (λ (bits : List Bool). bit_at bits i) c.deref.ensures.value ∙ c.in_ok-path.ensures.each i lt ∙ ap (λ (ps : Points). may_reach (with_points p ps) (fault_numbered p i)) points in
    let own : AreToldOf p (table_at tables 0) (table_at tables 1) path excited =
    whole_told c.pairs_give_plans.ensures.plans p tables c.requires.tables path excited reaches c.requires.tried in
    let told : AreToldOf p planes bare path excited =
    subst (λ (o : List Outcome). AreToldOf p o bare path excited) (sym c.planes_by-planes.ensures)
    (subst (λ (o : List Outcome). AreToldOf p (table_at tables 0) o path excited) (sym c.planes_by-bare.ensures) own) in
    record {
      finding = subst (λ (o : List Outcome). IsFindingBy p o c.in_ok-finding.finding) c.planes_by-planes.ensures c.in_ok-finding.ensures.weighed;
      spoken = c.in_ok-finding.ensures.spoken p refl told;
      table = own.own;
    }
