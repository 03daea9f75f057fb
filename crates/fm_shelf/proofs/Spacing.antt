-- A line, from the words with a space behind each but the last.
use Rattle.std.proofs.Common.{◌≡◌, ◌∙◌, ap, sym, refl, ℕ, List, [], ◌∷◌, ◌++◌, map, Bor, append_assoc}
use Rattle.std.specs.List.{flat_map}
use Rattle.fm_base.specs.Text.{line, spaced}
use Rattle.fm_shelf.specs.Spaces.{with_space}

-- the texts of words
abbrev pub texts : List (Bor (List ℕ)) → List (List ℕ)
texts words = map (λ word. word.now) words

one_more : (w : List ℕ) (words : List (Bor (List ℕ))) (last : Bor (List ℕ)) → spaced (w ∷ texts (words ++ last ∷ [])) ≡ w ++ (32 ∷ spaced (texts (words ++ last ∷ [])))
one_more w [] last = refl
one_more w (x ∷ words) last = refl

pub spaced_snoc : (words : List (Bor (List ℕ))) (last : Bor (List ℕ)) → spaced (texts (words ++ last ∷ [])) ≡ flat_map with_space words ++ last.now
spaced_snoc [] last = refl
spaced_snoc (w ∷ words) last =
    one_more w.now words last
    ∙ ap (λ rest. w.now ++ (32 ∷ rest)) (spaced_snoc words last)
    ∙ sym (append_assoc w.now (32 ∷ []) (flat_map with_space words ++ last.now))
    ∙ sym (append_assoc (w.now ++ 32 ∷ []) (flat_map with_space words) last.now)

-- the whole line: the words but the last, and then the last with the line feed
pub line_snoc : (words : List (Bor (List ℕ))) (last : Bor (List ℕ)) → line (texts (words ++ last ∷ [])) ≡ flat_map with_space words ++ (last.now ++ 10 ∷ [])
line_snoc words last = ap (λ t. t ++ 10 ∷ []) (spaced_snoc words last) ∙ append_assoc (flat_map with_space words) last.now (10 ∷ [])

-- the same of words that were taken apart
pub line_parts : (all : List (Bor (List ℕ))) (words : List (Bor (List ℕ))) (last : Bor (List ℕ)) → all ≡ words ++ last ∷ []
    → line (texts all) ≡ flat_map with_space words ++ (last.now ++ 10 ∷ [])
line_parts all words last e = ap (λ xs. line (texts xs)) e ∙ line_snoc words last
