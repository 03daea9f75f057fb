use Rattle.std.proofs.Common.{ℕ, List, [], ◌∷◌, ◌++◌, subst}
use Rattle.std.specs.Prelude.{decimal}
use Rattle.sha2.specs.Hashers.{Holds256}
use Rattle.result_file.proofs.Feeds.{stretch_fed}
use Rattle.result_file.proofs.digest.feed_stretch.Goals as goal

pub returns : goal.returns
returns c = λ m h.
    let s = c.args.stretch in
    let first : List ℕ = m ++ decimal s.first in
    let last : List ℕ = (first ++ 45 ∷ []) ++ decimal s.last in
    let dash : Holds256 c.update.new.self (first ++ 45 ∷ []) =
    subst (λ piece. Holds256 c.update.new.self (first ++ piece)) c.as_slice.ensures (c.update.ensures first (c.feed_decimal.ensures m h)) in
    let slash : Holds256 c.update-2.new.self (last ++ 47 ∷ []) =
    subst (λ piece. Holds256 c.update-2.new.self (last ++ piece)) c.as_slice-2.ensures (c.update-2.ensures last (c.feed_decimal-2.ensures (first ++ 45 ∷ []) dash)) in
    subst (Holds256 c.feed_decimal-3.new.hasher) (stretch_fed m s) (c.feed_decimal-3.ensures (last ++ 47 ∷ []) slash)
