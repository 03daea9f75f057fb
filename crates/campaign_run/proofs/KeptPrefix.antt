-- The first bytes of a result file are the text of its whole rows and fewer bytes than a row, which are no matter to what is kept of it.
use Rattle.std.proofs.Common.{◌≡◌, ℕ, zero, suc, ◌+◌, ◌-◌, ◌*◌, ◌/◌, ◌<◌, ◌≤◌, true, false, Bool, ◌&&◌, min, List, [], ◌∷◌, ◌++◌, length, take, drop, refl, ap, sym, subst, ◌∙◌, arith, append_assoc, length-append}
use Rattle.std.specs.Prelude.{All, nat_lt, nat_eq, slice_range, if◌then◌else◌}
use Rattle.std.specs.List.{flat_map, starts_with}
use Rattle.std.specs.Str.{bytes_eq}
use Rattle.std.proofs.lemmas.Bool.Decides.{nat_tests}
use Rattle.std.proofs.lemmas.Slice.Eq.{bytes_eq-Decides}
use Rattle.std.proofs.lemmas.List.{take-append-drop, take-append-le, drop-append-le, take-take, take-map, take_at, length-take, length-drop, get_or-take, ext_get_or}
use Rattle.std.proofs.lemmas.List.Concat.{flat_map-append}
use Rattle.std.proofs.lemmas.List.Elements.{All-take}
use Rattle.std.proofs.Math.Seq.{take-append-add}
use Rattle.fm_base.specs.Firsts.{first_fault}
use Rattle.fm_base.specs.Lists.{below}
use Rattle.fm_base.specs.Once.{Lacks, IsOnce}
use Rattle.campaign_plan.specs.Analysis.{Analysis, batch_count}
use Rattle.campaign_plan.specs.Batches.{Entry, batches, total, AreDistinct}
use Rattle.result_file.specs.declared.Row.{Row}
use Rattle.result_file.specs.ResultText.{row_text, row_of, row_at, result_rows, entry_at, result_text}
use Rattle.result_file.specs.KeptRows.{kept, kept_unless, whole_pieces, row_fault, is_torn_header, FitsLanes, ReadsBack, ReadsBackOf}
use Rattle.result_file.proofs.Whole.{no_row, length-rows}
use Rattle.result_file.proofs.Pieces.{length-pieces, piece_at}
use Rattle.result_file.proofs.WrittenBack.{length-result_rows, row_is, entries_are}
use Rattle.result_file.proofs.Keeping.{kept_torn, kept_own}
use Rattle.campaign_run.specs.Prefixes.{whole_entries, whole_text, KeepsWholeRows, PrefixesKeepWholeRows}

-- ---- the first entries

-- a row is read off the entries up to it alone
row_first : (p : Analysis) (entries : List Entry) (m k : ℕ) → k < m → row_at p (take m entries) k ≡ row_at p entries k
row_first p entries m k lt =
    let up_to : take (k + 1) (take m entries) ≡ take (k + 1) entries = take-take (k + 1) m entries (omega arith) in
    ap (λ e. row_of e (total p (take (k + 1) (take m entries)))) (get_or-take m entries k _ lt)
    ∙ ap (λ es. row_of (entry_at entries k) (total p es)) up_to

-- the rows of the first entries are the first rows
rows_first : (p : Analysis) (entries : List Entry) (m : ℕ) → result_rows p (take m entries) ≡ take m (result_rows p entries)
rows_first p entries m =
    let many : length (result_rows p (take m entries)) ≡ length (take m entries) = length-result_rows p (take m entries) in
    let firsts : length (take m entries) ≡ min m (length entries) = length-take m entries in
    let all : length (result_rows p entries) ≡ length entries = length-result_rows p entries in
    ext_get_or no_row (result_rows p (take m entries)) (take m (result_rows p entries))
    (many ∙ firsts ∙ ap (min m) (sym all) ∙ sym (length-take m (result_rows p entries)))
    (λ k lt. (let lower : k < length (take m entries) = omega (arith, lt, many) in
    let under : k < m = omega (arith, lower, firsts) in
    let within : k < length entries = omega (arith, lower, firsts) in
    row_is p (take m entries) k lower ∙ row_first p entries m k under ∙ sym (row_is p entries k within)
    ∙ sym (get_or-take m (result_rows p entries) k no_row under)))

-- ---- the first of distinct batches

lacks_first : (xs : List ℕ) (x m : ℕ) → Lacks xs x → Lacks (take m xs) x
lacks_first xs x zero h = tt
lacks_first [] x (suc m) h = tt
lacks_first (y ∷ xs) x (suc m) h = (h.0, lacks_first xs x m h.1)

once_first : (xs : List ℕ) (m : ℕ) → IsOnce xs → IsOnce (take m xs)
once_first xs zero h = tt
once_first [] (suc m) h = tt
once_first (x ∷ xs) (suc m) h = (lacks_first xs x m h.0, once_first xs m h.1)

distinct_first : (p : Analysis) (entries : List Entry) (m : ℕ) → AreDistinct p entries → AreDistinct p (take m entries)
distinct_first p entries m h =
    let same : take m (batches entries) ≡ batches (take m entries) = take-map (λ (entry : Entry). entry.0) m entries in
    record {
      within = subst (All (λ batch. batch < batch_count p)) same (All-take (λ batch. batch < batch_count p) m (batches entries) h.within);
      once = subst IsOnce same (once_first (batches entries) m h.once);
    }

-- ---- the text

length-text : (own : List ℕ) (p : Analysis) (entries : List Entry) → length own ≡ 89 → length (result_text own p entries) ≡ 89 + 130 * length entries
length-text own p entries many =
    length-append own (flat_map row_text (result_rows p entries))
    ∙ omega (arith, many, length-rows (result_rows p entries), length-result_rows p entries)

-- the rows behind the first m
abbrev rows_behind : Analysis → List Entry → ℕ → List ℕ
rows_behind p entries m = flat_map row_text (drop m (result_rows p entries))

text_split : (own : List ℕ) (p : Analysis) (entries : List Entry) (m : ℕ) → result_text own p entries ≡ result_text own p (take m entries) ++ rows_behind p entries m
text_split own p entries m =
    let rows : List Row = result_rows p entries in
    ap (λ t. own ++ t) (ap (flat_map row_text) (sym (take-append-drop m rows)) ∙ flat_map-append row_text (take m rows) (drop m rows))
    ∙ sym (append_assoc own (flat_map row_text (take m rows)) (flat_map row_text (drop m rows)))
    ∙ ap (λ rs. (own ++ flat_map row_text rs) ++ rows_behind p entries m) (sym (rows_first p entries m))

take_past : (front rest : List ℕ) (n : ℕ) → length front ≤ n → take n (front ++ rest) ≡ front ++ take (n - length front) rest
take_past front rest n le =
    let split : n ≡ length front + (n - length front) = omega arith in
    ap (λ m. take m (front ++ rest)) split ∙ take-append-add front rest (n - length front)

-- the first n bytes, where the header is whole: the text of the rows that are whole, and fewer bytes than a row
pub record IsCut (own : List ℕ) (p : Analysis) (entries : List Entry) (n : ℕ) : Type 0 where
  pub tail : List ℕ
  pub short : length tail < 130
  pub cut : take n (result_text own p entries) ≡ result_text own p (whole_entries entries n) ++ tail

cut_is : (own : List ℕ) (p : Analysis) (entries : List Entry) (n : ℕ) → length own ≡ 89 → 89 ≤ n → IsCut own p entries n
cut_is own p entries n many le =
    let m : ℕ = (n - 89) / 130 in
    let front : List ℕ = result_text own p (take m entries) in
    let rest : List ℕ = rows_behind p entries m in
    let firsts : length (take m entries) ≡ min m (length entries) = length-take m entries in
    let long : length front ≡ 89 + 130 * length (take m entries) = length-text own p (take m entries) many in
    let left : length rest ≡ 130 * (length entries - m) =
    length-rows (drop m (result_rows p entries)) ∙ omega (arith, length-drop m (result_rows p entries), length-result_rows p entries) in
    let tail : List ℕ = take (n - length front) rest in
    let size : length tail ≡ min (n - length front) (length rest) = length-take (n - length front) rest in
    record {
      tail = tail;
      short = omega (arith, size, left, long, firsts);
      cut = ap (take n) (text_split own p entries m) ∙ take_past front rest n (omega (arith, long, firsts));
    }

-- ---- pieces of a file with more bytes behind

slice_front : (bytes tail : List ℕ) (from to : ℕ) → from ≤ to → to ≤ length bytes → slice_range (bytes ++ tail) from to ≡ slice_range bytes from to
slice_front bytes tail from to le within =
    ap (take (to - from)) (drop-append-le from bytes tail (omega arith))
    ∙ take-append-le (to - from) (drop from bytes) tail (omega (arith, length-drop from bytes))

-- bytes that hold whole rows alone have the same pieces when fewer bytes than a row follow
pieces_front : (bytes tail : List ℕ) (count : ℕ) → length bytes ≡ 89 + 130 * count → length tail < 130 → whole_pieces (bytes ++ tail) ≡ whole_pieces bytes
pieces_front bytes tail count many short =
    let long : length (bytes ++ tail) ≡ length bytes + length tail = length-append bytes tail in
    let longer : length (whole_pieces (bytes ++ tail)) ≡ count = length-pieces (bytes ++ tail) ∙ omega (arith, many, short, long) in
    let shorter : length (whole_pieces bytes) ≡ count = length-pieces bytes ∙ omega (arith, many) in
    ext_get_or [] (whole_pieces (bytes ++ tail)) (whole_pieces bytes) (longer ∙ sym shorter)
    (λ k lt. (let lower : k < count = omega (arith, lt, longer) in
    piece_at (bytes ++ tail) k (omega (arith, lower, many, long))
    ∙ slice_front bytes tail (89 + 130 * k) (89 + 130 * (k + 1)) (omega arith) (omega (arith, lower, many))
    ∙ sym (piece_at bytes k (omega (arith, lower, many)))))

not_torn : (own bytes : List ℕ) → 89 ≤ length bytes → is_torn_header own bytes ≡ false
not_torn own bytes le =
    let long : nat_lt (length bytes) 89 ≡ false = grind (arith, nat_tests) in
    ap (λ b. b && starts_with nat_eq own bytes) long

has_head : (own bytes : List ℕ) → take 89 bytes ≡ own → bytes_eq (take 89 bytes) own ≡ true
has_head own bytes head = (bytes_eq-Decides (take 89 bytes) own).1 head

-- so the same is kept of them
kept_front : (own : List ℕ) (p : Analysis) (bytes tail : List ℕ) (count : ℕ) → take 89 bytes ≡ own → length bytes ≡ 89 + 130 * count → length tail < 130
    → kept own p (bytes ++ tail) ≡ kept own p bytes
kept_front own p bytes tail count head many short =
    let long : length (bytes ++ tail) ≡ length bytes + length tail = length-append bytes tail in
    let same : take 89 (bytes ++ tail) ≡ own = take-append-le 89 bytes tail (omega (arith, many)) ∙ head in
    kept_own own p (bytes ++ tail) (not_torn own (bytes ++ tail) (omega (arith, many, long))) (has_head own (bytes ++ tail) same)
    ∙ ap (λ ps. kept_unless (first_fault (row_fault p) ps) ps) (pieces_front bytes tail count many short)
    ∙ sym (kept_own own p bytes (not_torn own bytes (omega (arith, many))) (has_head own bytes head))

-- ---- a header that isn't whole

torn_start : (own : List ℕ) (n : ℕ) → length own ≡ 89 → n < 89 → is_torn_header own (take n own) ≡ true
torn_start own n many lt =
    let size : length (take n own) ≡ n = length-take n own ∙ omega (arith, many) in
    let less : nat_lt (length (take n own)) 89 ≡ true = grind (arith, nat_tests, size) in
    let start : take n own ≡ take (length (take n own)) own = ap (λ m. take m own) (sym size) in
    ap (λ b. b && starts_with nat_eq own (take n own)) less ∙ (bytes_eq-Decides (take n own) (take (length (take n own)) own)).1 start

-- ---- what is kept of the first n bytes

no_rows : (p : Analysis) → [] ≡ result_rows p []
unfolding result_rows below
no_rows p = refl

keeps_nothing : (own : List ℕ) (p : Analysis) (entries : List Entry) (n : ℕ) → length own ≡ 89 → nat_lt n 89 ≡ true → KeepsWholeRows own p entries n
keeps_nothing own p entries n many short =
    let lt : n < 89 = grind (arith, nat_tests) in
    let cut : take n (result_text own p entries) ≡ take n own = take-append-le n own _ (omega (arith, many)) in
    let none : (n - 89) / 130 ≡ 0 = omega arith in
    let no_entries : [] ≡ whole_entries entries n = ap (λ m. take m entries) (sym none) in
    record {
      k = record { rows = []; whole = 0 };
      kept_rows = ap (kept own p) cut ∙ kept_torn own p (take n own) (torn_start own n many lt);
      rows = no_rows p ∙ ap (result_rows p) no_entries;
      first = no_entries;
      bytes = ap (λ b. if b then [] else result_text own p (whole_entries entries n)) (sym short);
      within = omega arith;
    }

keeps_rows : (p : Analysis) → ReadsBackOf p → (own : List ℕ) (entries : List Entry) (n : ℕ) → length own ≡ 89 → AreDistinct p entries → All (FitsLanes p) entries
    → nat_lt n 89 ≡ false → KeepsWholeRows own p entries n
keeps_rows p law own entries n many distinct fits long =
    let le : 89 ≤ n = grind (arith, nat_tests) in
    let is = cut_is own p entries n many le in
    let some : List Entry = whole_entries entries n in
    let front : List ℕ = result_text own p some in
    let size : length front ≡ 89 + 130 * length some = length-text own p some many in
    let head : take 89 front ≡ own = take_at own _ 89 many in
    let back = law own some many (distinct_first p entries ((n - 89) / 130) distinct) (All-take (FitsLanes p) ((n - 89) / 130) entries fits) in
    let text : whole_text own p entries n ≡ front = ap (λ b. if b then [] else front) long in
    record {
      k = record { rows = result_rows p some; whole = length front };
      kept_rows = ap (kept own p) is.cut ∙ kept_front own p front is.tail (length some) head size is.short ∙ back;
      rows = refl;
      first = entries_are p some;
      bytes = ap (take (length front)) is.cut ∙ take_at front is.tail (length front) refl ∙ sym text;
      within = omega (arith, ap length is.cut, length-append front is.tail);
    }

pub keeps_whole_rows : ReadsBack → PrefixesKeepWholeRows
keeps_whole_rows law p plan own entries n many distinct fits = by_header (nat_lt n 89) refl
  where
    by_header : (short : Bool) → nat_lt n 89 ≡ short → KeepsWholeRows own p entries n
    by_header true e = keeps_nothing own p entries n many e
    by_header false e = keeps_rows p (law p plan) own entries n many distinct fits e
