use Rattle.std.proofs.Common.{List, ap, subst, ◌∙◌}
use Rattle.std.specs.Prelude.{◌↔◌, IsTrue}
use Rattle.circuit.specs.Circuit.{Circuit}
use Rattle.circuit.specs.declared.parts.Fault.{Fault}
use Rattle.fault_list.specs.Faults.{fault_at}
use Rattle.alarm_points.specs.PointsFile.{observed}
use Rattle.reach.specs.Paths.{CanChangeSome}
use Rattle.campaign_plan.specs.Analysis.{fault_numbered}
use Rattle.golden_values.proofs.Exciting.{fault_in_circuit}
use Rattle.coverage.specs.Evidence.{may_reach}
use Rattle.metric_coverage.specs.Paths.{with_points}
use Rattle.metric_coverage.proofs.Reaching.{of_circuit, told_alike}
use Rattle.metric_coverage.proofs.paths.has_path.Goals as goal

pub returns : goal.returns
returns c =
    let p = c.args.plan.now in
    let i = c.args.i in
    let q = with_points p c.args.reach.now.points in
    let fault = c.fault-fault.ensures ∙ ap (λ (fs : List Fault). fault_at fs i) c.faults.ensures.value in
    let own = of_circuit p.circuit (fault_numbered p i) (fault_in_circuit p.circuit p.settings.flips p.settings.pulses i c.requires.fault) in
    let told = c.no_path_is_safe.ensures.told q (fault_numbered p i) (record { netlist = c.net.ensures.plan.netlist; points = c.requires.points }) own in
    let can : IsTrue c.can_change.result ↔ CanChangeSome p.circuit (fault_numbered p i) (observed c.args.reach.now.points) =
    subst (λ (circuit : Circuit). IsTrue c.can_change.result ↔ CanChangeSome circuit (fault_numbered p i) (observed c.args.reach.now.points)) c.requires.made
    (subst (λ (f : Fault). IsTrue c.can_change.result ↔ CanChangeSome c.args.reach.now.circuit f (observed c.args.reach.now.points)) fault c.can_change.ensures) in
    told_alike c.can_change.result (may_reach q (fault_numbered p i)) can told
