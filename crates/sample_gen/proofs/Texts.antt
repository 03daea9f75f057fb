-- Texts that grow by a piece at a time.
use Rattle.std.proofs.Common.{◌≡◌, ◌∙◌, ap, sym, ℕ, suc, ◌+◌, ◌≤◌, List, length, [], ◌∷◌, ◌++◌, map, Bor, append_assoc, arith}
use Rattle.std.proofs.lemmas.List.{append-nil}
use Rattle.std.proofs.lemmas.List.Concat.{flat_map-append}
use Rattle.std.specs.List.{flat_map}
use Rattle.fm_base.specs.Lists.{below}
use Rattle.fm_base.specs.Names.{Bytes}
use Rattle.fm_base.specs.Text.{line, spaced}
use Rattle.fm_base.proofs.Below.{below_push}
use Rattle.sample_gen.specs.Spaces.{after_space}

-- the texts of words
abbrev pub texts : List (Bor Bytes) → List Bytes
texts words = map (λ word. word.now) words

-- words are the first of them, and each other behind a space
spaced_from : (first : Bor Bytes) (others : List (Bor Bytes)) → spaced (texts (first ∷ others)) ≡ first.now ++ flat_map after_space others
spaced_from first [] = sym (append-nil first.now)
spaced_from first (word ∷ others) = ap (λ rest. first.now ++ (32 ∷ rest)) (spaced_from word others)

-- a text with a line more, after its words one by one
pub line_added : (text one two three : Bytes) (words : List (Bor Bytes)) (first : Bor Bytes) (others : List (Bor Bytes))
    → words ≡ first ∷ others → one ≡ text ++ first.now → two ≡ one ++ flat_map after_space others → three ≡ two ++ 10 ∷ []
    → three ≡ text ++ line (texts words)
line_added text one two three words first others parts added more last =
    last
    ∙ ap (λ t. t ++ 10 ∷ []) (more ∙ ap (λ t. t ++ flat_map after_space others) added ∙ append_assoc text first.now (flat_map after_space others)
    ∙ ap (λ t. text ++ t) (sym (ap (λ ws. spaced (texts ws)) parts ∙ spaced_from first others)))
    ∙ append_assoc text (spaced (texts words)) (10 ∷ [])

-- a text with the pieces of no number
pub grown_none : (piece : ℕ → Bytes) (text : Bytes) → text ≡ text ++ flat_map piece (below 0)
unfolding below
grown_none piece text = sym (append-nil text)

-- a text with the piece of one number more
pub grown_more : (piece : ℕ → Bytes) (k : ℕ) (start text now : Bytes) → text ≡ start ++ flat_map piece (below k) → now ≡ text ++ piece k
    → now ≡ start ++ flat_map piece (below (k + 1))
grown_more piece k start text now before more =
    more ∙ ap (λ t. t ++ piece k) before ∙ append_assoc start (flat_map piece (below k)) (piece k)
    ∙ ap (λ t. start ++ t) (ap (λ t. flat_map piece (below k) ++ t) (sym (append-nil (piece k))) ∙ sym (flat_map-append piece (below k) (k ∷ []))
    ∙ ap (flat_map piece) (sym (below_push k)) ∙ ap (λ n. flat_map piece (below n)) next)
  where
    next : suc k ≡ k + 1
    next = omega arith

-- a text with an empty line more
pub line_none : (text now : Bytes) (words : List (Bor Bytes)) → length words ≡ 0 → now ≡ text ++ 10 ∷ [] → now ≡ text ++ line (texts words)
line_none text now [] none more = more
line_none text now (word ∷ words) none more = absurd (omega arith)

-- the numbers have come to their end
pub grown_all : (piece : ℕ → Bytes) (k n : ℕ) (start text : Bytes) → text ≡ start ++ flat_map piece (below k) → k ≤ n → n ≤ k → text ≡ start ++ flat_map piece (below n)
grown_all piece k n start text before low high =
    let e : k ≡ n = omega arith in before ∙ ap (λ m. start ++ flat_map piece (below m)) e

-- a text that grows once more
pub grows : {text was now : Bytes} (piece : Bytes) → text ≡ was → now ≡ text ++ piece → now ≡ was ++ piece
grows piece before more = more ∙ ap (λ t. t ++ piece) before

-- the same, by a piece in other words
pub grows_as : {text was now piece : Bytes} (other : Bytes) → text ≡ was → piece ≡ other → now ≡ text ++ piece → now ≡ was ++ other
grows_as {text = text} other before same more = grows other before (more ∙ ap (λ p. text ++ p) same)

-- a text that grows twice more, by a piece and its end
pub grows_twice : {text was one two : Bytes} (piece end : Bytes) → text ≡ was → one ≡ text ++ piece → two ≡ one ++ end → two ≡ was ++ (piece ++ end)
grows_twice {was = was} piece end before first more = grows end (grows piece before first) more ∙ append_assoc was piece end
