use Rattle.std.proofs.Common.{◌+◌, ◌*◌, not, List, ◌∙◌, arith}
use Rattle.std.specs.List.{list_any}
use Rattle.circuit.specs.declared.parts.Fault.{Fault}
use Rattle.campaign_plan.specs.Danger.{golden, with_faults}
use Rattle.fm_base.specs.Lists.{same_bit}
use Rattle.differential_kernel.specs.Picked.{place_in}
use Rattle.classifier.proofs.Narrowing.{bare_same, tells_of}
use Rattle.classifier.proofs.narrow.NarrowFollowed.differing.Goals as goal

pub returns : goal.returns
returns c = λ run t word k lt after less lane.
    let s = c.args.self.now in
    let circuit = s.lanes.circuit in
    let nets = c.args.nets.now in
    let sound = c.spread_bits.ensures.sound in
    let of_faults = λ (faults : List Fault). list_any (λ net. not (same_bit (with_faults circuit faults run t net) (golden circuit run t net))) nets in
    c.spread_bits.ensures.bits word k less lane
    ∙ tells_of s.lanes.in_force of_faults c.differ_in.result (place_in s.picks (word * 64 + k)) (bare_same circuit run t nets)
    (λ own there. c.differ_in.ensures run t own lt after (omega (arith, (sound.picked_there (word * 64 + k) own there).0, sound.few)))
