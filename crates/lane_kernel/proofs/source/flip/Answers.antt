use Rattle.std.proofs.Common.{sym, ◌∙◌}
use Rattle.lane_words.specs.Gates.{plane}
use Rattle.lane_kernel.proofs.Transients.{flipped_free}
use Rattle.lane_kernel.proofs.source.flip.Goals as goal

pub returns-else-transient : goal.returns-else-transient
returns-else-transient g c = λ k lt.
    sym (flipped_free c.args.loads.now k c.args.cycle (plane g.W.Word.lane_bit k c.args.raw.now) (sym c.requires.transient ∙ c.if-transient.false))
