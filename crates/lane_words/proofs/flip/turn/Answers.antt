use Rattle.std.proofs.Common.{cond, not, refl, ap, ◌∙◌}
use Rattle.std.proofs.lemmas.Bool.{eq-eqb, ne_eqb}
use Rattle.lane_words.proofs.FlipOnce.{turned_own, turned_other}
use Rattle.lane_words.proofs.flip.turn.Goals as goal

pub returns-then-at-raw-clause-own : goal.returns-then-at-raw-clause-own
returns-then-at-raw-clause-own g c = λ l lt.
    turned_own g.W.Word.lane_bit c.args.lane c.args.raw.now c.args.latch c.put.result l c.if-at-raw.true
    (c.put.ensures c.args.lane c.requires
    ∙ ap (λ b. cond b (not c.get.result) (g.W.Word.lane_bit c.word_at-word.result c.args.lane)) (eq-eqb c.args.lane c.args.lane refl)
    ∙ ap not (c.get.ensures ∙ c.word_at-word.ensures c.args.lane c.requires))

pub returns-then-at-raw-clause-others : goal.returns-then-at-raw-clause-others
returns-then-at-raw-clause-others g c = λ k lt other.
    turned_other g.W.Word.lane_bit k c.args.raw.now c.args.latch c.put.result
    (c.put.ensures k lt
    ∙ ap (λ b. cond b (not c.get.result) (g.W.Word.lane_bit c.word_at-word.result k)) (ne_eqb k c.args.lane other)
    ∙ c.word_at-word.ensures k lt)
