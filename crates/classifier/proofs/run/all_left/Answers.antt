use Rattle.std.proofs.Common.{◌||◌, ◌&&◌, ap, ◌∙◌}
use Rattle.fm_base.specs.Planes.{bit}
use Rattle.fm_base.proofs.Bits.{bit_of_and}
use Rattle.classifier.proofs.run.all_left.Goals as goal

pub returns : goal.returns
returns c = λ k.
    c.either_lanes.ensures k
    ∙ ap (λ b. bit c.args.left k || b) (bit_of_and c.args.decided.notice c.settled.result k ∙ ap (λ b. bit c.args.decided.notice k && b) (c.settled.ensures k))
