use Rattle.std.proofs.Common.{◌≡◌, ◌<◌, ◌+◌, ◌*◌, ◌∷◌, [], ℕ, Bool, List, length, get_or, refl, ap, subst, sym, ◌∙◌, arith}
use Rattle.std.proofs.lemmas.List.{get_or_default}
use Rattle.circuit.specs.Value.{bit_at}
use Rattle.alarm_points.specs.declared.Goal.{Goal}
use Rattle.alarm_points.specs.declared.Points.{Points}
use Rattle.alarm_points.specs.PointsKept.{ArePointsFor}
use Rattle.campaign_plan.specs.declared.Outcome.{Outcome}
use Rattle.campaign_plan.specs.Analysis.{Analysis, fault_count, fault_numbered}
use Rattle.readings.specs.Breakdown.{with_goals}
use Rattle.testbench.specs.Points.{goal_at}
use Rattle.coverage.specs.Evidence.{may_reach}
use Rattle.metric_coverage.specs.Findings.{IsFindingBy, goal_plan}
use Rattle.metric_coverage.specs.Paths.{observing}
use Rattle.metric_coverage.specs.Planes.{table_at}
use Rattle.metric_coverage.specs.Spoken.{AreToldOf}
use Rattle.metric_coverage.proofs.Telling.{goal_told, table_size, tables_count}
use Rattle.metric_coverage.proofs.Pairing.{several_within}
use Rattle.metric_coverage.proofs.Reaching.{goal_fits}
use Rattle.metric_coverage.proofs.found.goal_finding.Goals as goal

-- the goal of a number, where these are the goals of the points
goal_is : (goals listed : List Goal) (g : ℕ) (one : Goal) → goals ≡ listed → g < length listed → one ≡ get_or goals g one → one ≡ goal_at listed g
goal_is goals listed g one all lt is =
    let inside : g < length goals = subst (λ (gs : List Goal). g < length gs) (sym all) lt in
    is ∙ get_or_default goals g one (goal_at [] 0) inside ∙ ap (λ (gs : List Goal). goal_at gs g) all

pub goal_path_list-requires : goal.goal_path_list-requires
goal_path_list-requires c =
    let p = c.args.plan.now in
    let g = c.args.g in
    let lt : g < length p.points.goals = omega (arith, c.requires.goal, several_within p) in
    let own = goal_is c.as_slice-goals.result.now p.points.goals g c.index-goals-g.result (c.as_slice-goals.ensures ∙ ap (λ (ps : Points). ps.goals) c.points.ensures.value) lt c.index-goals-g.is in
    subst (λ (goal : Goal). ArePointsFor p.circuit (observing goal.observe)) (sym own) (goal_fits p.circuit p.points g c.points.ensures.plan.points lt)

pub planes_by-planes-requires : goal.planes_by-planes-requires
planes_by-planes-requires c = omega (arith, c.requires.goal, tables_count c.pairs_give_plans.ensures.plans c.args.plan.now c.args.tables.now c.requires.tables)

pub planes_by-bare-requires : goal.planes_by-bare-requires
planes_by-bare-requires c = omega (arith, c.requires.goal, tables_count c.pairs_give_plans.ensures.plans c.args.plan.now c.args.tables.now c.requires.tables)

pub finding_of-requires-clause-planes : goal.finding_of-requires-clause-planes
finding_of-requires-clause-planes c =
    ap length c.planes_by-planes.ensures ∙ table_size c.pairs_give_plans.ensures.plans c.args.plan.now c.args.tables.now c.requires.tables (2 * c.args.g + 2) (omega (arith, c.requires.goal))

pub finding_of-requires-clause-bare : goal.finding_of-requires-clause-bare
finding_of-requires-clause-bare c =
    ap length c.planes_by-bare.ensures ∙ table_size c.pairs_give_plans.ensures.plans c.args.plan.now c.args.tables.now c.requires.tables (2 * c.args.g + 3) (omega (arith, c.requires.goal))

pub returns : goal.returns
returns c =
    let p = c.args.plan.now in
    let g = c.args.g in
    let q : Analysis = goal_plan p g in
    let tables = c.args.tables.now in
    let planes : List Outcome = c.planes_by-planes.result.now in
    let bare : List Outcome = c.planes_by-bare.result.now in
    let path : List Bool = c.deref.result.now in
    let excited : List Bool = c.args.excited.now in
    let lt : g < length p.points.goals = omega (arith, c.requires.goal, several_within p) in
    let own = goal_is c.as_slice-goals.result.now p.points.goals g c.index-goals-g.result (c.as_slice-goals.ensures ∙ ap (λ (ps : Points). ps.goals) c.points.ensures.value) lt c.index-goals-g.is in
    let reaches : (i : ℕ) → i < fault_count p → bit_at path i ≡ may_reach q (fault_numbered p i) =
    λ i inside. ap (λ (bits : List Bool). bit_at bits i) c.deref.ensures.value ∙ c.in_ok-path.ensures.each i inside
    ∙ ap (λ (goal : Goal). may_reach (with_goals p (goal ∷ [])) (fault_numbered p i)) own in
    let all : AreToldOf q (table_at tables (2 * g + 2)) (table_at tables (2 * g + 3)) path excited =
    goal_told c.pairs_give_plans.ensures.plans p tables c.requires.tables g c.requires.goal path excited reaches c.requires.tried in
    let told : AreToldOf q planes bare path excited =
    subst (λ (o : List Outcome). AreToldOf q o bare path excited) (sym c.planes_by-planes.ensures)
    (subst (λ (o : List Outcome). AreToldOf q (table_at tables (2 * g + 2)) o path excited) (sym c.planes_by-bare.ensures) all) in
    record {
      finding = subst (λ (o : List Outcome). IsFindingBy p o c.in_ok-finding.finding) c.planes_by-planes.ensures c.in_ok-finding.ensures.weighed;
      spoken = c.in_ok-finding.ensures.spoken q refl told;
      table = all.own;
    }
