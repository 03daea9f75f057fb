use Rattle.std.proofs.Common.{◌&&◌, ◌||◌, ap, ◌∙◌}
use Rattle.classifier.proofs.points.louder.Goals as goal

pub returns-clause-raised : goal.returns-clause-raised
returns-clause-raised g c = λ k lt.
    c.either_word.ensures k lt
    ∙ ap (λ b. g.W.Word.lane_bit c.args.before.raised k || b) (c.and.ensures k lt ∙ ap (λ b. g.W.Word.lane_bit c.args.differs k && b) (c.all.ensures k lt))

pub returns-clause-silenced : goal.returns-clause-silenced
returns-clause-silenced g c = λ k lt.
    c.either_word-2.ensures k lt
    ∙ ap (λ b. g.W.Word.lane_bit c.args.before.silenced k || b) (c.and-2.ensures k lt ∙ ap (λ b. g.W.Word.lane_bit c.args.differs k && b) (c.all-2.ensures k lt))
