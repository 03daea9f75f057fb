-- The lines of the generated netlist, what they say, and that none of them is faulty.
use Rattle.std.proofs.Common.{◌≡◌, ◌≢◌, ℕ, zero, suc, ◌+◌, ◌-◌, ◌<◌, ◌≤◌, ◌^◌, Bool, true, false, List, [], ◌∷◌, ◌++◌, length, map, refl, ap, ap₂, sym, ◌∙◌, append_assoc, append-nil, arith}
use Rattle.std.specs.Prelude.{All, ◌==◌, None, codes, decimal, flat_map, if◌then◌else◌, nat_lt, not, ◌&&◌}
use Rattle.std.specs.List.{list_all, list_any, range_with_len}
use Rattle.std.proofs.lemmas.List.{map-append}
use Rattle.std.proofs.lemmas.Fmt.{length-decimal-le}
use Rattle.std.proofs.lemmas.List.Concat.{flat_map-append}
use Rattle.std.proofs.lemmas.List.Elements.{All-cons, All-nil}
use Rattle.fm_base.proofs.Tests.{and_both, not_true}
use Rattle.fm_base.specs.Lists.{below}
use Rattle.fm_base.specs.Names.{Bytes}
use Rattle.fm_base.specs.Text.{line}
use Rattle.blif_text.specs.Lines.{Line}
use Rattle.blif_model.specs.LineFault.{Said, said_lines}
use Rattle.blif_model.specs.Statement.{Statement, directive_line, end, inputs, latch, model, outputs, row, statement_of, table}
use Rattle.sample_gen.specs.Sample.{netlist_text}
use Rattle.campaign_laws.proofs.Lining.{AreLines, AreWords, IsPlain, IsWord, decimal_plain, numbered, plain_by, read_lines}

-- ---- the words

-- a letter and a number
abbrev pub word : Bytes → ℕ → Bytes
word letter i = letter ++ decimal i

-- what stage i reads
abbrev pub source : Bytes → ℕ → Bytes
source letter i = if i == 1 then codes "d" else word letter (i - 1)

-- the lines of a stage
abbrev pub stage_words : (read inverter stored : Bytes) → List (List Bytes)
stage_words read inverter stored =
    (codes ".names" ∷ read ∷ inverter ∷ []) ∷ (codes "0" ∷ codes "1" ∷ []) ∷ (codes ".latch" ∷ inverter ∷ stored ∷ codes "0" ∷ []) ∷ []

abbrev pub both_words : ℕ → List (List Bytes)
both_words k =
    stage_words (source (codes "a") (k + 1)) (word (codes "m") (k + 1)) (word (codes "a") (k + 1))
    ++ stage_words (source (codes "b") (k + 1)) (word (codes "n") (k + 1)) (word (codes "b") (k + 1))

abbrev pub head_words : List (List Bytes)
head_words = (codes ".model" ∷ codes "pipe" ∷ []) ∷ (codes ".inputs" ∷ codes "d" ∷ []) ∷ (codes ".outputs" ∷ codes "q" ∷ codes "e" ∷ []) ∷ []

abbrev pub tail_words : ℕ → List (List Bytes)
tail_words n =
    (codes ".names" ∷ word (codes "a") n ∷ codes "q" ∷ []) ∷ (codes "1" ∷ codes "1" ∷ [])
    ∷ (codes ".names" ∷ word (codes "a") n ∷ word (codes "b") n ∷ codes "e" ∷ []) ∷ (codes "10" ∷ codes "1" ∷ []) ∷ (codes "01" ∷ codes "1" ∷ [])
    ∷ (codes ".end" ∷ []) ∷ []

abbrev pub file_words : ℕ → List (List Bytes)
file_words n = head_words ++ flat_map both_words (below n) ++ tail_words n

-- ---- the text

flat_of_flat : {X : Type 0} (f : X → List (List Bytes)) (xs : List X) → flat_map line (flat_map f xs) ≡ flat_map (λ x. flat_map line (f x)) xs
flat_of_flat f [] = refl
flat_of_flat f (x ∷ xs) = flat_map-append line (f x) (flat_map f xs) ∙ ap (λ rest. flat_map line (f x) ++ rest) (flat_of_flat f xs)

six_texts : (a b c d e f : Bytes) → a ++ (b ++ (c ++ (d ++ (e ++ (f ++ []))))) ≡ (a ++ b ++ c) ++ (d ++ e ++ f)
six_texts a b c d e f = simp (append_assoc, append-nil) refl

five_texts : (h s a b c d : Bytes) → h ++ s ++ (a ++ (b ++ (c ++ d))) ≡ h ++ s ++ a ++ b ++ c ++ d
five_texts h s a b c d = simp append_assoc refl

pub text_is : (n : ℕ) → flat_map line (file_words n) ≡ netlist_text n
unfolding netlist_text
text_is n =
    flat_map-append line (head_words ++ flat_map both_words (below n)) (tail_words n)
    ∙ ap (λ front. front ++ flat_map line (tail_words n)) (flat_map-append line head_words (flat_map both_words (below n)))
    ∙ ap (λ stages. flat_map line head_words ++ stages ++ flat_map line (tail_words n))
    (flat_of_flat both_words (below n) ∙ (λ j. flat_map (λ k. six_texts (line (codes ".names" ∷ source (codes "a") (k + 1) ∷ word (codes "m") (k + 1) ∷ [])) (codes "0 1\n")
    (line (codes ".latch" ∷ word (codes "m") (k + 1) ∷ word (codes "a") (k + 1) ∷ codes "0" ∷ [])) (line (codes ".names" ∷ source (codes "b") (k + 1) ∷ word (codes "n") (k + 1) ∷ []))
    (codes "0 1\n") (line (codes ".latch" ∷ word (codes "n") (k + 1) ∷ word (codes "b") (k + 1) ∷ codes "0" ∷ [])) j) (below n)))
    ∙ five_texts (flat_map line head_words)
    (flat_map (λ k. (line (codes ".names" ∷ source (codes "a") (k + 1) ∷ word (codes "m") (k + 1) ∷ []) ++ codes "0 1\n"
    ++ line (codes ".latch" ∷ word (codes "m") (k + 1) ∷ word (codes "a") (k + 1) ∷ codes "0" ∷ []))
    ++ (line (codes ".names" ∷ source (codes "b") (k + 1) ∷ word (codes "n") (k + 1) ∷ []) ++ codes "0 1\n"
    ++ line (codes ".latch" ∷ word (codes "n") (k + 1) ∷ word (codes "b") (k + 1) ∷ codes "0" ∷ []))) (below n))
    (line (codes ".names" ∷ word (codes "a") n ∷ codes "q" ∷ [])) (codes "1 1\n")
    (line (codes ".names" ∷ word (codes "a") n ∷ word (codes "b") n ∷ codes "e" ∷ [])) (codes "10 1\n01 1\n.end\n")

-- ---- each word is plain, and no word is wide

letter_word : (letter i : ℕ) → 35 < letter → letter ≢ 92 → i < 2 ^ 64 → IsWord (letter ∷ decimal i)
letter_word letter i low high small = record { some = omega arith; plain = All-cons IsPlain letter (decimal i) (plain_by letter low high) (decimal_plain i small) }

-- a word whose bytes are known to be plain
plain_word : (text : Bytes) → 0 < length text → list_all (λ b. nat_lt 35 b && not (b == 92)) text ≡ true → IsWord text
plain_word text some all = record { some = some; plain = all_plain text all }
  where
    all_plain : (bs : Bytes) → list_all (λ b. nat_lt 35 b && not (b == 92)) bs ≡ true → All IsPlain bs
    all_plain [] e = All-nil IsPlain
    all_plain (b ∷ bs) e =
        let both = and_both (nat_lt 35 b && not (b == 92)) (list_all (λ c. nat_lt 35 c && not (c == 92)) bs) e in
        let here = and_both (nat_lt 35 b) (not (b == 92)) both.0 in
        let low : 35 < b = grind (arith, here.0) in
        let high : (b == 92) ≡ false = not_true (b == 92) here.1 in
        let apart : b ≢ 92 = grind (arith, high) in
        All-cons IsPlain b bs (plain_by b low apart) (all_plain bs both.1)

pub record IsSmallWord (text : Bytes) : Type 0 where
  pub is : IsWord text
  pub short : length text ≤ 21

pub small_word : (letter i : ℕ) → 35 < letter → letter ≢ 92 → i < 2 ^ 64 → IsSmallWord (letter ∷ decimal i)
small_word letter i low high small =
    let few : length (decimal i) ≤ 20 = length-decimal-le 20 i (omega arith) (omega arith) small in
    record { is = letter_word letter i low high small; short = omega (arith, few) }

small_d : IsSmallWord (codes "d")
small_d = record { is = plain_word (codes "d") (omega arith) refl; short = omega arith }

source_small : (letter i : ℕ) → 35 < letter → letter ≢ 92 → i < 2 ^ 64 → IsSmallWord (source (letter ∷ []) i)
source_small letter i low high small = by_test (i == 1)
  where
    by_test : (first : Bool) → IsSmallWord (if first then codes "d" else word (letter ∷ []) (i - 1))
    by_test true = small_d
    by_test false = small_word letter (i - 1) low high (omega (arith, small))

-- a line of plain words, none of them wide
pub record IsPlainLine (words : List Bytes) : Type 0 where
  pub are : AreWords words
  pub narrow : list_any (λ (token : Bytes). nat_lt 255 (length token)) words ≡ false

narrow_word : (text : Bytes) → IsSmallWord text → nat_lt 255 (length text) ≡ false
narrow_word text it = (let short = it.short in grind (arith, short))

unfoldable pub AllPlainLines : List (List Bytes) → Type 0
AllPlainLines [] = Unit {0}
AllPlainLines (words ∷ lines) = IsPlainLine words × AllPlainLines lines

plain_both : (xs ys : List (List Bytes)) → AllPlainLines xs → AllPlainLines ys → AllPlainLines (xs ++ ys)
unfolding AllPlainLines
plain_both [] ys all more = more
plain_both (x ∷ xs) ys all more = (all.0, plain_both xs ys all.1 more)

known : (text : Bytes) → 0 < length text → length text ≤ 21 → list_all (λ b. nat_lt 35 b && not (b == 92)) text ≡ true → IsSmallWord text
known text some short plain = record { is = plain_word text some plain; short = short }

three_line : (a b c : Bytes) → IsSmallWord a → IsSmallWord b → IsSmallWord c → IsPlainLine (a ∷ b ∷ c ∷ [])
unfolding AreWords
three_line a b c x y z = record { are = (x.is, (y.is, z.is)); narrow = rw (narrow_word a x, narrow_word b y, narrow_word c z) refl }

two_line : (a b : Bytes) → IsSmallWord a → IsSmallWord b → IsPlainLine (a ∷ b ∷ [])
unfolding AreWords
two_line a b x y = record { are = (x.is, y.is); narrow = rw (narrow_word a x, narrow_word b y) refl }

four_line : (a b c d : Bytes) → IsSmallWord a → IsSmallWord b → IsSmallWord c → IsSmallWord d → IsPlainLine (a ∷ b ∷ c ∷ d ∷ [])
unfolding AreWords
four_line a b c d x y z w = record { are = (x.is, (y.is, (z.is, w.is))); narrow = rw (narrow_word a x, narrow_word b y, narrow_word c z, narrow_word d w) refl }

one_line : (a : Bytes) → IsSmallWord a → IsPlainLine (a ∷ [])
unfolding AreWords
one_line a x = record { are = x.is; narrow = rw (narrow_word a x) refl }

stage_plain : (read inverter stored : Bytes) → IsSmallWord read → IsSmallWord inverter → IsSmallWord stored → AllPlainLines (stage_words read inverter stored)
unfolding AllPlainLines
stage_plain read inverter stored r i s = (
  three_line (codes ".names") read inverter (known (codes ".names") (omega arith) (omega arith) refl) r i,
  (
    two_line (codes "0") (codes "1") (known (codes "0") (omega arith) (omega arith) refl) (known (codes "1") (omega arith) (omega arith) refl),
    (four_line (codes ".latch") inverter stored (codes "0") (known (codes ".latch") (omega arith) (omega arith) refl) i s (known (codes "0") (omega arith) (omega arith) refl), tt),
  ),
)

both_plain : (k : ℕ) → k + 1 < 2 ^ 64 → AllPlainLines (both_words k)
both_plain k small =
    plain_both (stage_words (source (codes "a") (k + 1)) (word (codes "m") (k + 1)) (word (codes "a") (k + 1)))
    (stage_words (source (codes "b") (k + 1)) (word (codes "n") (k + 1)) (word (codes "b") (k + 1)))
    (stage_plain (source (codes "a") (k + 1)) (word (codes "m") (k + 1)) (word (codes "a") (k + 1))
    (source_small 97 (k + 1) (omega arith) (omega arith) small) (small_word 109 (k + 1) (omega arith) (omega arith) small) (small_word 97 (k + 1) (omega arith) (omega arith) small))
    (stage_plain (source (codes "b") (k + 1)) (word (codes "n") (k + 1)) (word (codes "b") (k + 1))
    (source_small 98 (k + 1) (omega arith) (omega arith) small) (small_word 110 (k + 1) (omega arith) (omega arith) small) (small_word 98 (k + 1) (omega arith) (omega arith) small))

stages_plain : (k : ℕ) (ks : List ℕ) → AllPlainLines (flat_map both_words ks) → k + 1 < 2 ^ 64 → AllPlainLines (flat_map both_words (k ∷ ks))
stages_plain k ks all small = plain_both (both_words k) (flat_map both_words ks) (both_plain k small) all

stages_from : (a n : ℕ) → a + n < 2 ^ 32 → AllPlainLines (flat_map both_words (range_with_len a n))
unfolding AllPlainLines
stages_from a zero small = tt
stages_from a (suc n) small = stages_plain a (range_with_len (a + 1) n) (stages_from (a + 1) n (omega (arith, small))) (omega (arith, small))

head_plain : AllPlainLines head_words
unfolding AllPlainLines
head_plain = (
  two_line (codes ".model") (codes "pipe") (known (codes ".model") (omega arith) (omega arith) refl) (known (codes "pipe") (omega arith) (omega arith) refl),
  (
    two_line (codes ".inputs") (codes "d") (known (codes ".inputs") (omega arith) (omega arith) refl) small_d,
    (
      three_line (codes ".outputs") (codes "q") (codes "e") (known (codes ".outputs") (omega arith) (omega arith) refl)
          (known (codes "q") (omega arith) (omega arith) refl) (known (codes "e") (omega arith) (omega arith) refl),
      tt,
    ),
  ),
)

tail_plain : (n : ℕ) → n < 2 ^ 32 → AllPlainLines (tail_words n)
unfolding AllPlainLines
tail_plain n small =
    let a = small_word 97 n (omega arith) (omega arith) (omega (arith, small)) in
    let b = small_word 98 n (omega arith) (omega arith) (omega (arith, small)) in
    let names = known (codes ".names") (omega arith) (omega arith) refl in
    let one = known (codes "1") (omega arith) (omega arith) refl in (
      three_line (codes ".names") (word (codes "a") n) (codes "q") names a (known (codes "q") (omega arith) (omega arith) refl),
      (
        two_line (codes "1") (codes "1") one one,
        (
          four_line (codes ".names") (word (codes "a") n) (word (codes "b") n) (codes "e") names a b (known (codes "e") (omega arith) (omega arith) refl),
          (
            two_line (codes "10") (codes "1") (known (codes "10") (omega arith) (omega arith) refl) one,
            (
              two_line (codes "01") (codes "1") (known (codes "01") (omega arith) (omega arith) refl) one,
              (one_line (codes ".end") (known (codes ".end") (omega arith) (omega arith) refl), tt),
            ),
          ),
        ),
      ),
    )

pub file_plain : (n : ℕ) → n < 2 ^ 32 → AllPlainLines (file_words n)
unfolding below
file_plain n small =
    plain_both (head_words ++ flat_map both_words (below n)) (tail_words n)
    (plain_both head_words (flat_map both_words (below n)) head_plain (stages_from 0 n (omega (arith, small)))) (tail_plain n small)

-- ---- what they say

lines_are : (lines : List (List Bytes)) → AllPlainLines lines → AreLines lines
unfolding AllPlainLines AreLines
lines_are [] all = tt
lines_are (words ∷ lines) all = (all.0.are, lines_are lines all.1)

-- statements as lines that say them, numbered from a number on
abbrev pub says_from : ℕ → List Statement → List Said
says_from k [] = []
says_from k (says ∷ more) = record { number = k; says = says; wide = false } ∷ says_from (k + 1) more

abbrev pub said : Line → Said
said line = record { number = line.number; says = statement_of line.tokens; wide = list_any (λ (token : Bytes). nat_lt 255 (length token)) line.tokens }

said_are : (k : ℕ) (lines : List (List Bytes)) → AllPlainLines lines → map said (numbered k lines) ≡ says_from k (map statement_of lines)
unfolding AllPlainLines
said_are k [] all = refl
said_are k (words ∷ lines) all =
    ap₂ (λ (wide : Bool) (rest : List Said). record { number = k; says = statement_of words; wide = wide } ∷ rest) all.0.narrow (said_are (k + 1) lines all.1)

-- what a stage says
abbrev pub stage_says : (read inverter stored : Bytes) → List Statement
stage_says read inverter stored =
    table (read ∷ []) inverter ∷ row (codes "0" ∷ codes "1" ∷ [])
    ∷ latch (record { from = inverter; to = stored; edge = None; control = None; start = false }) ∷ []

abbrev pub both_says : ℕ → List Statement
both_says k =
    stage_says (source (codes "a") (k + 1)) (word (codes "m") (k + 1)) (word (codes "a") (k + 1))
    ++ stage_says (source (codes "b") (k + 1)) (word (codes "n") (k + 1)) (word (codes "b") (k + 1))

abbrev pub ports : List Statement
ports = inputs (codes "d" ∷ []) ∷ outputs (codes "q" ∷ codes "e" ∷ []) ∷ []

abbrev pub ends : ℕ → List Statement
ends n =
    table (word (codes "a") n ∷ []) (codes "q") ∷ row (codes "1" ∷ codes "1" ∷ [])
    ∷ table (word (codes "a") n ∷ word (codes "b") n ∷ []) (codes "e") ∷ row (codes "10" ∷ codes "1" ∷ []) ∷ row (codes "01" ∷ codes "1" ∷ []) ∷ []

-- the lines of the model
abbrev pub body : ℕ → List Statement
body n = ports ++ flat_map both_says (below n) ++ ends n

stage_stated : (read inverter stored : Bytes) → map statement_of (stage_words read inverter stored) ≡ stage_says read inverter stored
unfolding statement_of directive_line
stage_stated read inverter stored = refl

both_stated : (k : ℕ) → map statement_of (both_words k) ≡ both_says k
unfolding statement_of directive_line
both_stated k = refl

flat_stated : (ks : List ℕ) → map statement_of (flat_map both_words ks) ≡ flat_map both_says ks
flat_stated [] = refl
flat_stated (k ∷ ks) = map-append statement_of (both_words k) (flat_map both_words ks) ∙ ap₂ (λ xs ys. xs ++ ys) (both_stated k) (flat_stated ks)

file_stated : (n : ℕ) → map statement_of (file_words n) ≡ model (codes "pipe") ∷ (body n ++ end ∷ [])
unfolding statement_of directive_line
file_stated n =
    map-append statement_of (head_words ++ flat_map both_words (below n)) (tail_words n)
    ∙ ap (λ front. front ++ map statement_of (tail_words n)) (map-append statement_of head_words (flat_map both_words (below n)))
    ∙ ap (λ stages. map statement_of head_words ++ stages ++ map statement_of (tail_words n)) (flat_stated (below n))
    ∙ ap (λ rest. model (codes "pipe") ∷ rest) (sym (append_assoc (ports ++ flat_map both_says (below n)) (ends n) (end ∷ [])))

pub file_says : (n : ℕ) → n < 2 ^ 32 → said_lines (netlist_text n) ≡ says_from 1 (model (codes "pipe") ∷ (body n ++ end ∷ []))
file_says n small =
    let all = file_plain n small in
    ap said_lines (sym (text_is n)) ∙ ap (map said) (read_lines (file_words n) (lines_are (file_words n) all)) ∙ said_are 1 (file_words n) all ∙ ap (says_from 1) (file_stated n)
