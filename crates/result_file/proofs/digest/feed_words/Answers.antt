use Rattle.std.proofs.Common.{◌≡◌, ◌<◌, ◌++◌, ◌∷◌, ℕ, List, [], length, ap, subst, ◌∙◌, arith}
use Rattle.std.specs.Prelude.{codes, decimal}
use Rattle.sha2.specs.Hashers.{Holds256}
use Rattle.result_file.specs.Feeding.{cycles_fed}
use Rattle.result_file.proofs.Feeds.{words_first, words_second, behind}
use Rattle.result_file.proofs.digest.feed_words.Goals as goal

pub returns-then-is_empty : goal.returns-then-is_empty
returns-then-is_empty c = λ m h.
    let none : length c.args.pulses.now ≡ 0 = grind arith in
    subst (λ text. Holds256 c.feed_form.new.hasher (m ++ text)) (words_first c.args.ftti c.args.flips.now c.args.pulses.now none) (c.feed_form.ensures m h)

pub returns-else-is_empty : goal.returns-else-is_empty
returns-else-is_empty c = λ m h.
    let some : 0 < length c.args.pulses.now = grind arith in
    let form : List ℕ = codes "fmeda-settings 2 " ++ (decimal c.args.ftti ++ (32 ∷ [] ++ cycles_fed c.args.flips.now)) in
    let pulses : List ℕ = cycles_fed c.args.pulses.now in
    let blank : Holds256 c.update.new.self ((m ++ form) ++ 32 ∷ []) =
    subst (λ piece. Holds256 c.update.new.self ((m ++ form) ++ piece)) c.as_slice.ensures (c.update.ensures (m ++ form) (c.feed_form-else-is_empty.ensures m h)) in
    subst (Holds256 c.feed_cycles.new.hasher) (behind m form (32 ∷ []) pulses ∙ ap (λ text. m ++ text) (words_second c.args.ftti c.args.flips.now c.args.pulses.now some))
    (c.feed_cycles.ensures ((m ++ form) ++ 32 ∷ []) blank)
