use Rattle.std.proofs.Common.{◌+◌, ◌*◌, List, arith}
use Rattle.circuit.specs.declared.parts.Fault.{Fault}
use Rattle.differential_kernel.specs.Picked.{place_in}
use Rattle.golden_difference.specs.Beside.{IsOver}
use Rattle.classifier.proofs.Narrowing.{bare_over, holds_at}
use Rattle.classifier.proofs.narrow.NarrowFollowed.is_over.Goals as goal

pub returns : goal.returns
returns c = λ vectors is after word k lt lane.
    let s = c.args.self.now in
    let lane_of = word * 64 + k in
    holds_at s.lanes.in_force (λ (faults : List Fault). IsOver s.lanes.circuit faults vectors 65536) (place_in s.picks lane_of) (bare_over s.lanes.circuit vectors 65536)
    (λ own there. c.is_over.ensures vectors own is after (omega (arith, (c.count-few.ensures.sound.picked_there lane_of own there).0, c.count-few.ensures.sound.few)))
