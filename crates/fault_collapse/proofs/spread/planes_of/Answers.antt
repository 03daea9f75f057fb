use Rattle.std.proofs.Common.{◌≤◌, ℕ, length, ap₂, arith}
use Rattle.std.specs.Prelude.{◌&&◌}
use Rattle.campaign_plan.specs.declared.Outcome.{Outcome}
use Rattle.fault_list.specs.Faults.{fault_number, is_used}
use Rattle.classifier.proofs.PlaneBits.{plane_is}
use Rattle.fault_collapse.specs.Chosen.{danger_shown, notice_shown, planes_shown}
use Rattle.fault_collapse.proofs.spread.planes_of.Goals as goal

pub returns : goal.returns
unfolding planes_shown
returns c =
    let count : ℕ = length c.args.collapse.now.faults in
    let inv = c.loop-lane.invariant in
    let all : 64 ≤ c.loop-lane.lane = c.loop-lane-test.false in
    ap₂ (λ danger noticed. let planes : Outcome = record { danger = danger; noticed = noticed } in planes)
    (plane_is c.loop-lane.danger (λ k. is_used count c.args.batch k && danger_shown c.args.collapse.now c.args.places.now c.args.found.now (fault_number c.args.batch k)) inv.fits.0
    (λ k lt. inv.danger k (omega (arith, all, lt))))
    (plane_is c.loop-lane.noticed (λ k. is_used count c.args.batch k && notice_shown c.args.collapse.now c.args.places.now c.args.found.now (fault_number c.args.batch k)) inv.fits.1
    (λ k lt. inv.noticed k (omega (arith, all, lt))))
