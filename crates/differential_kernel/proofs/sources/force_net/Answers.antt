use Rattle.std.proofs.Common.{get_or, ap, ap₂, ◌∙◌, arith}
use Rattle.circuit.specs.Value.{bit_at}
use Rattle.lane_words.specs.Bits.{either}
use Rattle.lane_words.specs.Forces.{force_value}
use Rattle.lane_words.specs.Gates.{plane}
use Rattle.place_set.specs.Places.{value_in}
use Rattle.differential_kernel.specs.Differences.{read_in}
use Rattle.differential_kernel.proofs.Notes.{at_set_other, at_set_same}
use Rattle.differential_kernel.proofs.sources.force_net.Goals as goal

pub returns-clause-forced : goal.returns-clause-forced
returns-clause-forced g c = λ k d lt.
    ap (λ words. bit_at (plane g.W.Word.lane_bit k words) c.args.net) c.store.ensures.word
    ∙ at_set_same g.W.Word.lane_bit k c.args.nets.now.words.items c.args.net c.forced_difference-word.result (omega (arith, c.requires.net, c.requires.nets.words))
    ∙ c.forced_difference-word.ensures k d lt
    ∙ ap₂ (λ forces own. either (force_value g.W.Word.lane_bit k (get_or forces c.args.net d) own) (value_in c.args.cycle.now.row.now c.args.net)) c.deref-2.ensures.value
    (c.value_word-own.ensures k lt ∙ ap (λ words. read_in g.W.Word.lane_bit k c.args.cycle.now.row.now words c.args.net) c.deref.ensures.value)

pub returns-clause-others : goal.returns-clause-others
returns-clause-others g c = λ k n other.
    ap (λ words. bit_at (plane g.W.Word.lane_bit k words) n) c.store.ensures.word
    ∙ at_set_other g.W.Word.lane_bit k c.args.nets.now.words.items c.args.net n c.forced_difference-word.result other
