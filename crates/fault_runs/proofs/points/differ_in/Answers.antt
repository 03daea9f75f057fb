use Rattle.std.proofs.Common.{◌<◌, ◌≤◌, ◌||◌, List, length, not, get_or, ap, ap₂, sym, ◌∙◌, arith, take_all}
use Rattle.std.specs.List.{list_any}
use Rattle.std.proofs.lemmas.List.Folds.{list_any_more}
use Rattle.circuit.specs.declared.parts.NetId.{NetId}
use Rattle.campaign_plan.specs.Danger.{golden, with_faults}
use Rattle.fm_base.specs.Lists.{same_bit}
use Rattle.lane_words.specs.Loads.{loaded_faults}
use Rattle.fault_runs.proofs.PointBits.{differs_where}
use Rattle.fault_runs.proofs.points.differ_in.Goals as goal

pub loop-net-preserved : goal.loop-net-preserved
loop-net-preserved g c = λ run t k lt after lane.
    let circuit = c.args.lanes.now.circuit in
    let faults = loaded_faults c.args.lanes.now.in_force k in
    let nets = c.args.nets.now in
    let i = c.loop-net.net-index in
    let none : NetId = record { 0 = 0 } in
    let within : i < length nets = omega arith in
    c.either_word-differ.ensures k lane
    ∙ ap₂ (λ a b. a || b) (c.loop-net.invariant run t k lt after lane)
    (c.difference_at.ensures run t k lt after lane (c.requires i none within)
    ∙ differs_where (with_faults circuit faults run t (get_or nets i none)) (golden circuit run t (get_or nets i none)))
    ∙ sym (list_any_more (λ (net : NetId). not (same_bit (with_faults circuit faults run t net) (golden circuit run t net))) nets i none within)

pub returns : goal.returns
returns g c = λ run t k lt after lane.
    let circuit = c.args.lanes.now.circuit in
    let faults = loaded_faults c.args.lanes.now.in_force k in
    let done : length c.args.nets.now ≤ c.loop-net.net-index = c.loop-net-test.false in
    c.loop-net.invariant run t k lt after lane
    ∙ ap (λ (nets : List NetId). list_any (λ (net : NetId). not (same_bit (with_faults circuit faults run t net) (golden circuit run t net))) nets)
    (take_all c.loop-net.net-index c.args.nets.now done)

pub loop-net-init : goal.loop-net-init
loop-net-init g c = λ run t k lt after lane. c.all-differ.ensures k lane
