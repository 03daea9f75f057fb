-- The generated texts are short enough to be read.
use Rattle.std.proofs.Common.{◌≡◌, ℕ, ◌+◌, ◌*◌, ◌≤◌, ◌^◌, false, List, [], ◌∷◌, ◌++◌, length, refl, ap, length-append, arith}
use Rattle.std.specs.Prelude.{flat_map, nat_lt}
use Rattle.std.specs.List.{list_any}
use Rattle.std.proofs.lemmas.List.Concat.{flat_map-append}
use Rattle.std.proofs.lemmas.List.FromFn.{length-range_with_len}
use Rattle.fm_base.proofs.Tests.{or_false}
use Rattle.fm_base.specs.Lists.{below}
use Rattle.fm_base.specs.Names.{Bytes}
use Rattle.fm_base.specs.Text.{line, spaced}
use Rattle.sample_gen.specs.Sample.{netlist_text}
use Rattle.campaign_laws.proofs.Lining.{AreWords}
use Rattle.campaign_laws.proofs.Stating.{AllPlainLines, both_words, file_plain, file_words, head_words, tail_words, text_is}

-- the words of all lines
abbrev words_of : List (List Bytes) → List Bytes
words_of lines = flat_map (λ words. words) lines

narrow : (word : Bytes) → nat_lt 255 (length word) ≡ false → length word ≤ 255
narrow word e = grind (arith, e)

-- no word is of more than 255 bytes
spaced_long : (words : List Bytes) → list_any (λ (token : Bytes). nat_lt 255 (length token)) words ≡ false → length (spaced words) ≤ 256 * length words
spaced_long [] e = omega arith
spaced_long (word ∷ []) e =
    let parts = or_false (nat_lt 255 (length word)) false e in
    let here = narrow word parts.0 in
    omega (arith, here)
spaced_long (word ∷ next ∷ words) e =
    let parts = or_false (nat_lt 255 (length word)) _ e in
    let here = narrow word parts.0 in
    let rest = spaced_long (next ∷ words) parts.1 in
    omega (arith, here, rest, length-append word (32 ∷ spaced (next ∷ words)))

lines_long : (lines : List (List Bytes)) → AllPlainLines lines → length (flat_map line lines) ≤ 257 * length (words_of lines)
unfolding AllPlainLines AreWords
lines_long [] all = omega arith
lines_long ([] ∷ lines) all = absurd all.0.are
lines_long ((word ∷ words) ∷ lines) all =
    let here = spaced_long (word ∷ words) all.0.narrow in
    let rest = lines_long lines all.1 in
    omega (
      arith,
      here,
      rest,
      length-append (line (word ∷ words)) (flat_map line lines),
      length-append (spaced (word ∷ words)) (10 ∷ []),
      length-append (word ∷ words) (words_of lines),
    )

stage_words_many : (ks : List ℕ) → length (words_of (flat_map both_words ks)) ≡ 18 * length ks
stage_words_many [] = refl
stage_words_many (k ∷ ks) =
    let split = ap length (flat_map-append (λ (words : List Bytes). words) (both_words k) (flat_map both_words ks)) in
    omega (arith, split, length-append (words_of (both_words k)) (words_of (flat_map both_words ks)), stage_words_many ks)

words_many : (n : ℕ) → length (words_of (file_words n)) ≡ 18 * n + 21
unfolding below
words_many n =
    let stages = flat_map both_words (below n) in
    let first = ap length (flat_map-append (λ (words : List Bytes). words) (head_words ++ stages) (tail_words n)) in
    let second = ap length (flat_map-append (λ (words : List Bytes). words) head_words stages) in
    omega (
      arith,
      first,
      second,
      length-append (words_of (head_words ++ stages)) (words_of (tail_words n)),
      length-append (words_of head_words) (words_of stages),
      stage_words_many (below n),
      length-range_with_len 0 n,
    )

pub netlist_short : (n : ℕ) → n ≤ 1000 → length (netlist_text n) ≤ 2 ^ 26
netlist_short n few =
    let size : length (flat_map line (file_words n)) ≡ length (netlist_text n) = ap length (text_is n) in
    omega (arith, few, size, lines_long (file_words n) (file_plain n (omega (arith, few))), words_many n)
