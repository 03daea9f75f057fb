use Rattle.lane_words.specs.declared.force.Force.{Force}
use Rattle.lane_words.specs.Forces.{force_value}
use Rattle.lane_words.proofs.Armed.{stored_same}
use Rattle.lane_words.proofs.arm.arm.Goals as goal

pub returns-then-at-forces-clause-others : goal.returns-then-at-forces-clause-others
returns-then-at-forces-clause-others g c = λ k n d own lt other within.
    stored_same (λ (force : Force g.row.W.Denot). force_value g.W.Word.lane_bit k force own) c.args.forces.now c.args.net.0 n c.index-forces-at.result c.with_lane.result d
    c.if-at-forces.true (c.with_lane.ensures.others k own lt other)
