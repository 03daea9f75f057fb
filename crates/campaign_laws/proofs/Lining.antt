-- A text of plain words is read as its lines.
use Rattle.std.proofs.Common.{◌≡◌, ◌≢◌, ℕ, suc, ◌+◌, ◌-◌, ◌%◌, ◌<◌, ◌≤◌, ◌^◌, Bool, true, false, not, List, [], ◌∷◌, ◌++◌, length, take, map, get_or, refl, ap, sym, ◌∙◌, append_assoc, length-append, arith}
use Rattle.std.specs.Prelude.{All, ◌==◌, decimal, filter, flat_map, nat_lt, slice_index}
use Rattle.std.specs.List.{before_first, enumerate_from, slice_split, suffix_len}
use Rattle.std.proofs.lemmas.Fmt.{decimal_by_steps}
use Rattle.std.proofs.lemmas.List.{get_or-append_right, take_all}
use Rattle.std.proofs.lemmas.List.Elements.{All-append, All-cons, All-head, All-nil, All-tail}
use Rattle.std.proofs.lemmas.List.Splits.{slice_split_at, slice_split_none}
use Rattle.std.proofs.lemmas.List.Sums.{suffix_len_is, take_while-cons}
use Rattle.fm_base.specs.Names.{Bytes}
use Rattle.fm_base.specs.Text.{line, spaced}
use Rattle.blif_text.specs.Lines.{Line, is_feed, is_hash, is_white, joined, lines_of}

-- ---- plain bytes and words

-- a byte that is neither white space nor a line feed, a hash or a backslash
pub record IsPlain (b : ℕ) : Type 0 where
  pub feed : is_feed b ≡ false
  pub white : is_white b ≡ false
  pub hash : is_hash b ≡ false
  pub slash : (b == 92) ≡ false

pub record IsWord (word : Bytes) : Type 0 where
  pub some : 0 < length word
  pub plain : All IsPlain word

-- one word or more
unfoldable pub AreWords : List Bytes → Type 0
AreWords [] = ⊥
AreWords (word ∷ []) = IsWord word
AreWords (word ∷ next ∷ words) = IsWord word × AreWords (next ∷ words)

pub plain_by : (b : ℕ) → 35 < b → b ≢ 92 → IsPlain b
plain_by b low high = record { feed = grind (arith, low); white = grind (arith, low); hash = grind (arith, low); slash = grind (arith, high) }

-- ---- words in a line

-- each byte of words in a line passes a test that the plain bytes and the space pass
all_spaced : (P : ℕ → Type 0) → ((b : ℕ) → IsPlain b → P b) → P 32 → (words : List Bytes) → AreWords words → All P (spaced words)
unfolding AreWords
all_spaced P each space [] are = absurd are
all_spaced P each space (word ∷ []) are = all_weaker word are.plain
  where
    all_weaker : (bs : Bytes) → All IsPlain bs → All P bs
    all_weaker [] all = All-nil P
    all_weaker (b ∷ bs) all = All-cons P b bs (each b (All-head IsPlain b bs all)) (all_weaker bs (All-tail IsPlain b bs all))
all_spaced P each space (word ∷ next ∷ words) are =
    All-append P word (32 ∷ spaced (next ∷ words)) (all_weaker word are.0.plain)
    (All-cons P 32 (spaced (next ∷ words)) space (all_spaced P each space (next ∷ words) are.1))
  where
    all_weaker : (bs : Bytes) → All IsPlain bs → All P bs
    all_weaker [] all = All-nil P
    all_weaker (b ∷ bs) all = All-cons P b bs (each b (All-head IsPlain b bs all)) (all_weaker bs (All-tail IsPlain b bs all))

no_feed : (words : List Bytes) → AreWords words → All (λ b. is_feed b ≡ false) (spaced words)
no_feed words are = all_spaced (λ b. is_feed b ≡ false) (λ b plain. plain.feed) refl words are

no_hash : (words : List Bytes) → AreWords words → All (λ b. is_hash b ≡ false) (spaced words)
no_hash words are = all_spaced (λ b. is_hash b ≡ false) (λ b plain. plain.hash) refl words are

-- the words again, cut at white space
cut_words : (words : List Bytes) → AreWords words → slice_split is_white (spaced words) ≡ words
unfolding AreWords
cut_words [] are = absurd are
cut_words (word ∷ []) are = slice_split_none is_white word (white word are.plain)
  where
    white : (bs : Bytes) → All IsPlain bs → All (λ b. is_white b ≡ false) bs
    white [] all = All-nil (λ b. is_white b ≡ false)
    white (b ∷ bs) all = All-cons (λ b. is_white b ≡ false) b bs (All-head IsPlain b bs all).white (white bs (All-tail IsPlain b bs all))
cut_words (word ∷ next ∷ words) are =
    slice_split_at is_white word 32 (spaced (next ∷ words)) (white word are.0.plain) refl ∙ ap (λ rest. word ∷ rest) (cut_words (next ∷ words) are.1)
  where
    white : (bs : Bytes) → All IsPlain bs → All (λ b. is_white b ≡ false) bs
    white [] all = All-nil (λ b. is_white b ≡ false)
    white (b ∷ bs) all = All-cons (λ b. is_white b ≡ false) b bs (All-head IsPlain b bs all).white (white bs (All-tail IsPlain b bs all))

all_some : (words : List Bytes) → AreWords words → filter (λ token. nat_lt 0 (length token)) words ≡ words
unfolding AreWords
all_some [] are = absurd are
all_some (word ∷ []) are = (let some = are.some in let test : nat_lt 0 (length word) ≡ true = grind (arith, some) in rw test refl)
all_some (word ∷ next ∷ words) are =
    let some = are.0.some in
    let test : nat_lt 0 (length word) ≡ true = grind (arith, some) in
    rw test (ap (λ rest. word ∷ rest) (all_some (next ∷ words) are.1))

-- ---- the last byte

pub record EndsPlain (bytes : Bytes) : Type 0 where
  pub front : Bytes
  pub last : ℕ
  pub is : bytes ≡ front ++ last ∷ []
  pub plain : IsPlain last

word_end : (word : Bytes) → 0 < length word → All IsPlain word → EndsPlain word
word_end [] some all = absurd (omega arith)
word_end (b ∷ []) some all = record { front = []; last = b; is = refl; plain = All-head IsPlain b [] all }
word_end (b ∷ c ∷ word) some all =
    let rest = word_end (c ∷ word) (omega arith) (All-tail IsPlain b (c ∷ word) all) in
    record { front = b ∷ rest.front; last = rest.last; is = ap (λ bs. b ∷ bs) rest.is; plain = rest.plain }

line_end : (words : List Bytes) → AreWords words → EndsPlain (spaced words)
unfolding AreWords
line_end [] are = absurd are
line_end (word ∷ []) are = word_end word are.some are.plain
line_end (word ∷ next ∷ words) are =
    let rest = line_end (next ∷ words) are.1 in
    record {
      front = word ++ 32 ∷ rest.front;
      last = rest.last;
      is = ap (λ bs. word ++ 32 ∷ bs) rest.is ∙ sym (append_assoc word (32 ∷ rest.front) (rest.last ∷ []));
      plain = rest.plain;
    }

last_at : (front : Bytes) (last d : ℕ) → get_or (front ++ last ∷ []) (length (front ++ last ∷ []) - 1) d ≡ last
last_at front last d =
    let size = length-append front (last ∷ []) in
    get_or-append_right front (last ∷ []) (length front) (length (front ++ last ∷ []) - 1) d refl (omega (arith, size))
    ∙ (let none : length (front ++ last ∷ []) - 1 - length front ≡ 0 = omega (arith, size) in ap (λ k. get_or (last ∷ []) k d) none)

no_white_end : (bytes : Bytes) → EndsPlain bytes → suffix_len is_white bytes ≡ 0
no_white_end bytes it =
    let size = length-append it.front (it.last ∷ []) in
    let long : length bytes ≡ length (it.front ++ it.last ∷ []) = ap length it.is in
    suffix_len_is is_white bytes (length bytes) 0 (omega arith) (λ k low high. absurd (omega (arith, low, high)))
    (λ some. ap (λ bs. is_white (get_or bs (length bs - 1) 0)) it.is ∙ ap is_white (last_at it.front it.last 0) ∙ it.plain.white)
    ∙ (let none : length bytes - length bytes ≡ 0 = omega arith in none)

no_slash_end : (bytes : Bytes) → EndsPlain bytes → (slice_index bytes (length bytes - 1) == 92) ≡ false
no_slash_end bytes it = ap (λ bs. slice_index bs (length bs - 1) == 92) it.is ∙ ap (λ b. b == 92) (last_at it.front it.last 0) ∙ it.plain.slash

before_none : (p : ℕ → Bool) (xs : Bytes) → All (λ b. p b ≡ false) xs → before_first p xs ≡ xs
before_none p [] all = refl
before_none p (x ∷ xs) all =
    let here : not (p x) ≡ true = ap not (All-head (λ b. p b ≡ false) x xs all) in
    take_while-cons (λ b. not (p b)) x xs ∙ rw here (ap (λ rest. x ∷ rest) (before_none p xs (All-tail (λ b. p b ≡ false) x xs all)))

-- ---- one line

line_of : ℕ → List Bytes → Line
line_of number words = record { number = number; tokens = words }

-- a physical line of plain words, and the lines below it
join_words : (number : ℕ) (words : List Bytes) (rest : List (ℕ × Bytes)) → AreWords words → joined ((number, spaced words) ∷ rest) ≡ line_of number words ∷ joined rest
unfolding joined line_of
join_words number words rest are =
    let bytes = spaced words in
    let it = line_end words are in
    let text : before_first is_hash bytes ≡ bytes = before_none is_hash bytes (no_hash words are) in
    let white : suffix_len is_white bytes ≡ 0 = no_white_end bytes it in
    let whole : take (length bytes - suffix_len is_white bytes) bytes ≡ bytes =
    (let size : length bytes ≤ length bytes - suffix_len is_white bytes = omega (arith, white) in take_all (length bytes - suffix_len is_white bytes) bytes size) in
    let slash : (slice_index bytes (length bytes - 1) == 92) ≡ false = no_slash_end bytes it in
    let tokens : filter (λ token. nat_lt 0 (length token)) (slice_split is_white bytes) ≡ words =
    ap (filter (λ token. nat_lt 0 (length token))) (cut_words words are) ∙ all_some words are in
    rw (text, whole, slash, tokens) refl

-- ---- the whole file

-- each line has one word or more
unfoldable pub AreLines : List (List Bytes) → Type 0
AreLines [] = Unit {0}
AreLines (words ∷ lines) = AreWords words × AreLines lines

-- lines, numbered from a number on
abbrev pub numbered : ℕ → List (List Bytes) → List Line
numbered n [] = []
numbered n (words ∷ lines) = record { number = n; tokens = words } ∷ numbered (n + 1) lines

split_lines : (lines : List (List Bytes)) → AreLines lines → slice_split is_feed (flat_map line lines) ≡ map spaced lines ++ [] ∷ []
unfolding AreLines
split_lines [] are = refl
split_lines (words ∷ lines) are =
    ap (slice_split is_feed) (append_assoc (spaced words) (10 ∷ []) (flat_map line lines))
    ∙ slice_split_at is_feed (spaced words) 10 (flat_map line lines) (no_feed words are.0) refl
    ∙ ap (λ rest. spaced words ∷ rest) (split_lines lines are.1)

join_lines : (n : ℕ) (lines : List (List Bytes)) → AreLines lines
    → joined (enumerate_from n (map spaced lines ++ [] ∷ [])) ≡ numbered n lines ++ record { number = n + length lines; tokens = [] } ∷ []
unfolding AreLines joined line_of
join_lines n [] are = (let same : n ≡ n + 0 = omega arith in λ j. record { number = same j; tokens = [] } ∷ [])
join_lines n (words ∷ lines) are =
    let same : n + 1 + length lines ≡ n + suc (length lines) = omega arith in
    join_words n words (enumerate_from (n + 1) (map spaced lines ++ [] ∷ [])) are.0
    ∙ ap (λ rest. record { number = n; tokens = words } ∷ rest) (join_lines (n + 1) lines are.1)
    ∙ (λ j. record { number = n; tokens = words } ∷ (numbered (n + 1) lines ++ record { number = same j; tokens = [] } ∷ []))

some_words : (ws : List Bytes) → AreWords ws → nat_lt 0 (length ws) ≡ true
unfolding AreWords
some_words [] none = absurd none
some_words (w ∷ []) some = refl
some_words (w ∷ v ∷ ws) some = (let lt : 0 < length (w ∷ v ∷ ws) = omega arith in grind (arith, lt))

filter_lines : (n last : ℕ) (lines : List (List Bytes)) → AreLines lines
    → filter (λ line. nat_lt 0 (length line.tokens)) (numbered n lines ++ record { number = last; tokens = [] } ∷ []) ≡ numbered n lines
unfolding AreLines
filter_lines n last [] are = refl
filter_lines n last (words ∷ lines) are =
    let test : nat_lt 0 (length words) ≡ true = some_words words are.0 in
    rw test (ap (λ rest. record { number = n; tokens = words } ∷ rest) (filter_lines (n + 1) last lines are.1))

pub read_lines : (lines : List (List Bytes)) → AreLines lines → lines_of (flat_map line lines) ≡ numbered 1 lines
unfolding lines_of
read_lines lines are =
    ap (λ physical. filter (λ line. nat_lt 0 (length line.tokens)) (joined (enumerate_from 1 physical))) (split_lines lines are)
    ∙ ap (filter (λ line. nat_lt 0 (length line.tokens))) (join_lines 1 lines are)
    ∙ filter_lines 1 (1 + length lines) lines are

-- ---- decimal words

abbrev AllPlain : Bytes → Type 0
AllPlain bytes = All IsPlain bytes

pub decimal_plain : (n : ℕ) → n < 2 ^ 64 → All IsPlain (decimal n)
decimal_plain n small = decimal_by_steps (λ _ digits. AllPlain digits) one more n small
  where
    one : (d : ℕ) → d < 10 → AllPlain ((48 + d) ∷ [])
    one d lt = All-cons IsPlain (48 + d) [] (plain_by (48 + d) (omega arith) (let apart : (48 + d) ≢ 92 = omega (arith, lt) in apart)) (All-nil IsPlain)

    more : (m : ℕ) (digits : List ℕ) → 10 ≤ m → AllPlain digits → AllPlain (digits ++ (48 + m % 10) ∷ [])
    more m digits many before = All-append IsPlain digits ((48 + m % 10) ∷ []) before (one (m % 10) (omega arith))
