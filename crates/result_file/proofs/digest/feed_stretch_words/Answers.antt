use Rattle.std.proofs.Common.{ℕ, List, [], ◌∷◌, ◌++◌, subst}
use Rattle.std.specs.Prelude.{codes, decimal}
use Rattle.sha2.specs.Hashers.{Holds256}
use Rattle.result_file.specs.ResultText.{stretch_text}
use Rattle.result_file.proofs.Feeds.{stretch_words_fed}
use Rattle.result_file.proofs.digest.feed_stretch_words.Goals as goal

pub returns : goal.returns
returns c = λ m h.
    let a : List ℕ = m ++ codes "fmeda-settings 3 " in
    let b : List ℕ = a ++ decimal c.args.interval in
    let d : List ℕ = (b ++ 32 ∷ []) ++ stretch_text c.args.stretch in
    let form : Holds256 c.update.new.self a = subst (λ piece. Holds256 c.update.new.self (m ++ piece)) c.as_slice.ensures (c.update.ensures m h) in
    let blank : Holds256 c.update-2.new.self (b ++ 32 ∷ []) =
    subst (λ piece. Holds256 c.update-2.new.self (b ++ piece)) c.as_slice-2.ensures (c.update-2.ensures b (c.feed_decimal.ensures a form)) in
    let next : Holds256 c.update-3.new.self (d ++ 32 ∷ []) =
    subst (λ piece. Holds256 c.update-3.new.self (d ++ piece)) c.as_slice-3.ensures (c.update-3.ensures d (c.feed_stretch.ensures (b ++ 32 ∷ []) blank)) in
    subst (Holds256 c.feed_cycles.new.hasher) (stretch_words_fed m c.args.interval c.args.stretch c.args.pulses.now) (c.feed_cycles.ensures (d ++ 32 ∷ []) next)
