use Rattle.std.proofs.Common.{◌<◌, ◌≤◌, ◌||◌, List, length, not, ap, ap₂, sym, ◌∙◌, arith, take_all}
use Rattle.std.specs.List.{list_any}
use Rattle.std.proofs.lemmas.List.Folds.{list_any_more}
use Rattle.circuit.specs.declared.parts.NetId.{NetId}
use Rattle.campaign_plan.specs.Danger.{golden, with_faults}
use Rattle.fm_base.specs.Lists.{same_bit}
use Rattle.row_audit.proofs.points.differing.Goals as goal

pub loop-net-preserved : goal.loop-net-preserved
loop-net-preserved g c = λ run t k lt after lane.
    let loaded = g.B.Circuits.loaded c.args.circuits.now in
    let faults = loaded.faults c.args.word k in
    let nets = c.args.nets.now in
    let i = c.loop-net.net-index in
    let none : NetId = record { 0 = 0 } in
    let within : i < length nets = omega arith in
    c.either_lanes-differ.ensures k
    ∙ ap₂ (λ a b. a || b) (c.loop-net.invariant run t k lt after lane)
    (c.other_lanes-own.ensures k lane
    ∙ ap₂ (λ v o. not (same_bit v o)) (c.values_of.ensures run t k lt after lane (c.requires.nets i none within)) (c.golden_of.ensures run t lt after (c.requires.nets i none within)))
    ∙ sym (list_any_more (λ (net : NetId). not (same_bit (with_faults loaded.circuit faults run t net) (golden loaded.circuit run t net))) nets i none within)

pub returns : goal.returns
returns g c = λ run t k lt after lane.
    let loaded = g.B.Circuits.loaded c.args.circuits.now in
    let faults = loaded.faults c.args.word k in
    let done : length c.args.nets.now ≤ c.loop-net.net-index = c.loop-net-test.false in
    c.loop-net.invariant run t k lt after lane
    ∙ ap (λ (nets : List NetId). list_any (λ (net : NetId). not (same_bit (with_faults loaded.circuit faults run t net) (golden loaded.circuit run t net))) nets)
    (take_all c.loop-net.net-index c.args.nets.now done)
