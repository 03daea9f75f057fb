-- Texts that are taken apart: at a separator, by their lengths, and numbers in them.
use Rattle.std.proofs.Common.{◌≡◌, ◌≢◌, ℕ, ◌+◌, ◌*◌, ◌<◌, ◌^◌, Bool, true, false, ◌⊎◌, inl, inr, List, [], ◌∷◌, ◌++◌, length, take, drop, map, refl, ap, ap₂, sym, ◌∙◌, length-append, arith}
use Rattle.std.specs.Prelude.{All, bytes_eq, codes, decimal}
use Rattle.std.specs.List.{join_with_byte}
use Rattle.std.proofs.Math.Seq.{drop-append_seam, take-append_seam}
use Rattle.std.proofs.lemmas.Fmt.{decimal_injective, decimal_nonempty}
use Rattle.std.proofs.lemmas.List.{append-nil}
use Rattle.std.proofs.lemmas.List.Elements.{All-head, All-tail}
use Rattle.fm_base.specs.Names.{Bytes}
use Rattle.fm_base.specs.Once.{Lacks}
use Rattle.fm_base.specs.Text.{hex}
use Rattle.fm_base.proofs.Digits.{length-hex}
use Rattle.fm_base.proofs.Distinct.{is_same, same_name}
use Rattle.result_file.specs.KeptRows.{hex_value}
use Rattle.result_file.specs.ResultText.{cycles_text, digest_text}
use Rattle.result_file.proofs.Numbers.{hex_back}
use Rattle.result_file.proofs.Separators.{decimal_lacks, first_same, lacks_both, no_separator}

-- two byte lists are the same or not
pub same_or_not : (a b : Bytes) → (a ≡ b) ⊎ (a ≢ b)
same_or_not a b = by_test (bytes_eq a b) refl
  where
    by_test : (t : Bool) → bytes_eq a b ≡ t → (a ≡ b) ⊎ (a ≢ b)
    by_test true e = inl (same_name a b e)
    by_test false e = inr (λ same. let yes : bytes_eq a b ≡ true = ap (bytes_eq a) (sym same) ∙ is_same a in absurd (cc))

-- ---- by lengths

pub parts_same : (a b x y : Bytes) → length a ≡ length b → a ++ x ≡ b ++ y → (a ≡ b) × (x ≡ y)
parts_same a b x y size e = (
  sym (take-append_seam a x) ∙ ap₂ (λ n l. take n l) size e ∙ take-append_seam b y,
  sym (drop-append_seam a x) ∙ ap₂ (λ n l. drop n l) size e ∙ drop-append_seam b y,
)

pub ends_same : (a b x y : Bytes) → length x ≡ length y → a ++ x ≡ b ++ y → (a ≡ b) × (x ≡ y)
ends_same a b x y size e =
    let whole : length (a ++ x) ≡ length (b ++ y) = ap length e in
    parts_same a b x y (omega (arith, whole, length-append a x, length-append b y, size)) e

-- ---- cycles

abbrev AreSmall : List ℕ → Type 0
AreSmall cycles = All (λ cycle. cycle < 2 ^ 64) cycles

small_head : (a : ℕ) (cycles : List ℕ) → AreSmall (a ∷ cycles) → a < 2 ^ 64
small_head a cycles small = All-head (λ cycle. cycle < 2 ^ 64) a cycles small

small_tail : (a : ℕ) (cycles : List ℕ) → AreSmall (a ∷ cycles) → AreSmall cycles
small_tail a cycles small = All-tail (λ cycle. cycle < 2 ^ 64) a cycles small

joined_lacks : (a : ℕ) (cycles : List ℕ) (c : ℕ) → AreSmall (a ∷ cycles) → (c < 44) ⊎ (57 < c) → Lacks (join_with_byte 44 (map decimal (a ∷ cycles))) c
joined_lacks a [] c small other =
    decimal_lacks a c (small_head a [] small) (elim other as (λ _. (c < 48) ⊎ (57 < c)) [ inl low ↦ inl (omega arith) | inr high ↦ inr high ])
joined_lacks a (b ∷ cycles) c small other =
    lacks_both (decimal a) (44 ∷ join_with_byte 44 (map decimal (b ∷ cycles))) c
    (decimal_lacks a c (small_head a (b ∷ cycles) small) (elim other as (λ _. (c < 48) ⊎ (57 < c)) [ inl low ↦ inl (omega arith) | inr high ↦ inr high ])) (
      let apart : 44 ≢ c = elim other as (λ _. 44 ≢ c) [ inl low ↦ omega arith | inr high ↦ omega arith ] in apart,
      joined_lacks b cycles c (small_tail a (b ∷ cycles) small) other,
    )

pub cycles_lack : (cycles : List ℕ) → AreSmall cycles → Lacks (cycles_text cycles) 32
cycles_lack [] small = (omega arith, (omega arith, (omega arith, (omega arith, tt))))
cycles_lack (a ∷ cycles) small = joined_lacks a cycles 32 small (inl (omega arith))

joined_same : (a : ℕ) (cs : List ℕ) (b : ℕ) (ds : List ℕ) → AreSmall (a ∷ cs) → AreSmall (b ∷ ds)
    → join_with_byte 44 (map decimal (a ∷ cs)) ≡ join_with_byte 44 (map decimal (b ∷ ds)) → a ∷ cs ≡ b ∷ ds
joined_same a [] b [] small_a small_b e = ap (λ n. n ∷ []) (decimal_injective a b (small_head a [] small_a) (small_head b [] small_b) e)
joined_same a [] b (d ∷ ds) small_a small_b e =
    absurd (no_separator (decimal a) (decimal b) (join_with_byte 44 (map decimal (d ∷ ds))) 44 (decimal_lacks a 44 (small_head a [] small_a) (inl (omega arith))) e)
joined_same a (c ∷ cs) b [] small_a small_b e =
    absurd (no_separator (decimal b) (decimal a) (join_with_byte 44 (map decimal (c ∷ cs))) 44 (decimal_lacks b 44 (small_head b [] small_b) (inl (omega arith))) (sym e))
joined_same a (c ∷ cs) b (d ∷ ds) small_a small_b e =
    let here = small_head a (c ∷ cs) small_a in
    let there = small_head b (d ∷ ds) small_b in
    let both = first_same (decimal a) (decimal b) (join_with_byte 44 (map decimal (c ∷ cs))) (join_with_byte 44 (map decimal (d ∷ ds))) 44
    (decimal_lacks a 44 here (inl (omega arith))) (decimal_lacks b 44 there (inl (omega arith))) e in
    ap₂ (λ (n : ℕ) (ns : List ℕ). n ∷ ns) (decimal_injective a b here there both.0)
    (joined_same c cs d ds (small_tail a (c ∷ cs) small_a) (small_tail b (d ∷ ds) small_b) both.1)

-- a text that begins as a number begins with no letter
no_letter : (digits rest text : Bytes) (c : ℕ) → 0 < length digits → Lacks digits c → c ∷ text ≡ digits ++ rest → ⊥
no_letter [] rest text c some none e = absurd (omega arith)
no_letter (d ∷ digits) rest text c some none e = none.0 (cc)

none_is_no_number : (a : ℕ) (cycles : List ℕ) → AreSmall (a ∷ cycles) → join_with_byte 44 (map decimal (a ∷ cycles)) ≡ codes "none" → ⊥
none_is_no_number a [] small e =
    let here = small_head a [] small in
    no_letter (decimal a) [] (codes "one") 110 (decimal_nonempty a here) (decimal_lacks a 110 here (inr (omega arith))) (sym e ∙ sym (append-nil (decimal a)))
none_is_no_number a (b ∷ cycles) small e =
    let here = small_head a (b ∷ cycles) small in
    no_letter (decimal a) (44 ∷ join_with_byte 44 (map decimal (b ∷ cycles))) (codes "one") 110 (decimal_nonempty a here) (decimal_lacks a 110 here (inr (omega arith))) (sym e)

pub cycles_same : (cs ds : List ℕ) → AreSmall cs → AreSmall ds → cycles_text cs ≡ cycles_text ds → cs ≡ ds
cycles_same [] [] small_a small_b e = refl
cycles_same [] (b ∷ ds) small_a small_b e = absurd (none_is_no_number b ds small_b (sym e))
cycles_same (a ∷ cs) [] small_a small_b e = absurd (none_is_no_number a cs small_a e)
cycles_same (a ∷ cs) (b ∷ ds) small_a small_b e = joined_same a cs b ds small_a small_b e

-- ---- digests in hexadecimal digits

abbrev pub AreBytes : Bytes → Type 0
AreBytes bytes = All (λ b. b < 256) bytes

hex_same : (a b : ℕ) → a < 256 → b < 256 → hex 2 a ≡ hex 2 b → a ≡ b
hex_same a b low_a low_b e = sym (hex_back 2 a (omega (arith, low_a))) ∙ ap hex_value e ∙ hex_back 2 b (omega (arith, low_b))

pub digests_same : (a b : Bytes) → AreBytes a → AreBytes b → length a ≡ length b → digest_text a ≡ digest_text b → a ≡ b
digests_same [] [] all_a all_b size e = refl
digests_same [] (y ∷ b) all_a all_b size e = absurd (omega (arith, size))
digests_same (x ∷ a) [] all_a all_b size e = absurd (omega (arith, size))
digests_same (x ∷ a) (y ∷ b) all_a all_b size e =
    let P : ℕ → Type 0 = λ v. v < 256 in
    let both = parts_same (hex 2 x) (hex 2 y) (digest_text a) (digest_text b) (length-hex 2 x ∙ sym (length-hex 2 y)) e in
    ap₂ (λ (v : ℕ) (vs : Bytes). v ∷ vs) (hex_same x y (All-head P x a all_a) (All-head P y b all_b) both.0)
    (digests_same a b (All-tail P x a all_a) (All-tail P y b all_b) (omega (arith, size)) both.1)

pub length-digest_text : (digest : Bytes) → length (digest_text digest) ≡ 2 * length digest
length-digest_text [] = refl
length-digest_text (x ∷ digest) = omega (arith, length-append (hex 2 x) (digest_text digest), length-hex 2 x, length-digest_text digest)
