use Rattle.std.proofs.Common.{Bool, ap, sym, ◌∙◌, ◌||◌, ◌&&◌}
use Rattle.std.specs.Prelude.{◌==◌}
use Rattle.fm_base.specs.Planes.{bit}
use Rattle.reading_planes.proofs.Bits.{with_bit}
use Rattle.reading_planes.proofs.add.with_lane.Goals as goal

pub returns-then-counts : goal.returns-then-counts
returns-then-counts c = λ k small.
    with_bit c.args.plane c.args.lane k c.requires small ∙ ap (λ (b : Bool). bit c.args.plane k || (c.args.lane == k && b)) (sym c.if-counts.true)
