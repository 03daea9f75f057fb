-- The tokens of a text, one after the other.
use Rattle.std.proofs.Common.{◌≡◌, ℕ, suc, ◌+◌, ◌-◌, ◌≤◌, ◌<◌, Bool, true, false, cond, not, List, [], ◌∷◌, refl, ap, sym, ◌∙◌, length, get_or, take, drop, arith}
use Rattle.std.specs.Prelude.{◌==◌, Option, Some, None, is_some, nat_lt}
use Rattle.std.specs.List.{before_first, list_any, position_or_len}
use Rattle.std.specs.Option.{option_map_or}
use Rattle.std.specs.Str.{byte}
use Rattle.std.proofs.Math.Seq.{drop-cons, take-length}
use Rattle.std.proofs.lemmas.Bool.{ltb-true}
use Rattle.std.proofs.lemmas.List.{length-drop, length-take}
use Rattle.blif_text.specs.Lines.{is_white}
use Rattle.fm_base.proofs.Tests.{both_false, not_not, not_true, false_of, or_false}
use Rattle.bench_reader.specs.Meant.{begins_inked}
use Rattle.bench_reader.specs.Tokens.{Token, opening, closing, comma, equals, name, begins_name, ends_name, is_wide_token, mark_of, tokens_of}

-- white space gives no token
pub white_first : (b : ℕ) (text : List ℕ) → is_white b ≡ true → tokens_of (b ∷ text) ≡ tokens_of text
unfolding tokens_of
white_first b text e = rw e refl

-- a mark is a token
pub mark_first : (b : ℕ) (text : List ℕ) (m : Token) → is_white b ≡ false → mark_of b ≡ Some m → tokens_of (b ∷ text) ≡ m ∷ tokens_of text
unfolding tokens_of
mark_first b text m e f = rw (e, f) refl

no_mark : (o : Option Token) → is_some o ≡ false → o ≡ None
no_mark None e = refl
no_mark (Some m) e = cc

-- where a name goes on in the text, its first token is the rest of the name
abbrev others : List ℕ → List Token → List Token
others more tokens = elim more [ [] ↦ tokens | _ ↦ drop 1 tokens ]

no_white_no_mark : (white : Bool) (mark : Option Token) (tokens named : List Token) → white ≡ false → mark ≡ None
    → cond white tokens (option_map_or (λ m. m ∷ tokens) mark named) ≡ named
no_white_no_mark white mark tokens named e f = rw (e, f) refl

name_byte_first : (b : ℕ) (text : List ℕ) → ends_name b ≡ false → tokens_of (b ∷ text) ≡ name (b ∷ before_first ends_name text) ∷ others (before_first ends_name text) (tokens_of text)
unfolding tokens_of
name_byte_first b text e =
    let parts = or_false (is_white b) (is_some (mark_of b)) e in
    no_white_no_mark (is_white b) (mark_of b) (tokens_of text) (name (b ∷ before_first ends_name text) ∷ others (before_first ends_name text) (tokens_of text)) parts.0
    (no_mark (mark_of b) parts.1)

no_name_place : (text : List ℕ) → begins_name text ≡ false → position_or_len ends_name text ≡ 0
no_name_place [] e = refl
no_name_place (b ∷ text) e = rw (not_not (ends_name b) e) refl

suc_place : (n : ℕ) → 1 + n ≡ suc n
suc_place n = omega arith

-- the place of the end of a name is behind its first byte
place_is : (b : ℕ) (text : List ℕ) → ends_name b ≡ false → position_or_len ends_name (b ∷ text) ≡ suc (position_or_len ends_name text)
place_is b text e = rw e (suc_place (position_or_len ends_name text))

-- the tokens of a text that begins with a name of so many bytes
abbrev cut_at : List ℕ → ℕ → List Token
cut_at text n = name (take n text) ∷ tokens_of (drop n text)

others_none : (text : List ℕ) (tokens : List Token) → begins_name text ≡ false → others (before_first ends_name text) tokens ≡ tokens
others_none text tokens e = ap (λ n. others (take n text) tokens) (no_name_place text e)

others_some : (text : List ℕ) (tokens : List Token) → begins_name text ≡ true → others (before_first ends_name text) tokens ≡ drop 1 tokens
others_some [] tokens e = cc
others_some (b ∷ text) tokens e = ap (λ n. others (take n (b ∷ text)) tokens) (place_is b text (not_true (ends_name b) e))

-- a name in front is a token
pub name_first : (text : List ℕ) → begins_name text ≡ true
    → tokens_of text ≡ name (take (position_or_len ends_name text) text) ∷ tokens_of (drop (position_or_len ends_name text) text)
name_first [] e = cc
name_first (b ∷ text) e =
    let inside = not_true (ends_name b) e in
    name_byte_first b text inside ∙ by_cases (begins_name text) refl (name_first text) ∙ sym (ap (cut_at (b ∷ text)) (place_is b text inside))
  where
    by_cases : (touches : Bool) → begins_name text ≡ touches
        → (begins_name text ≡ true → tokens_of text ≡ name (take (position_or_len ends_name text) text) ∷ tokens_of (drop (position_or_len ends_name text) text))
        → name (b ∷ before_first ends_name text) ∷ others (before_first ends_name text) (tokens_of text) ≡ cut_at (b ∷ text) (suc (position_or_len ends_name text))
    by_cases true f more =
        ap (λ (ts : List Token). name (b ∷ before_first ends_name text) ∷ ts) (others_some text (tokens_of text) f ∙ ap (λ (ts : List Token). drop 1 ts) (more f))
    by_cases false f more =
        ap (λ (ts : List Token). name (b ∷ before_first ends_name text) ∷ ts) (others_none text (tokens_of text) f ∙ sym (ap (λ n. tokens_of (drop n text)) (no_name_place text f)))

pub name_place_some : (text : List ℕ) → begins_name text ≡ true → 0 < position_or_len ends_name text
name_place_some [] e = cc
name_place_some (b ∷ text) e = let next = place_is b text (not_true (ends_name b) e) in omega arith

-- all that is left
pub rest_whole : (text : List ℕ) (n : ℕ) → take (length text - n) (drop n text) ≡ drop n text
rest_whole text n = ap (λ k. take k (drop n text)) (sym (length-drop n text)) ∙ take-length (drop n text)

-- the name that is cut off
pub name_cut : (text : List ℕ) (n : ℕ) → begins_name text ≡ true → n ≡ position_or_len ends_name text
    → tokens_of text ≡ name (take n text) ∷ tokens_of (take (length text - n) (drop n text))
name_cut text n e is = name_first text e ∙ ap (cut_at text) (sym is) ∙ ap (λ (rest : List ℕ). name (take n text) ∷ tokens_of rest) (sym (rest_whole text n))

-- ---- wide tokens

-- no token is longer than the text
abbrev pub IsWithin : ℕ → List Token → Type 0
IsWithin n [] = Unit {0}
IsWithin n (name text ∷ tokens) = (length text ≤ n) × IsWithin n tokens
IsWithin n (_ ∷ tokens) = IsWithin n tokens

within_more : (n m : ℕ) → n ≤ m → (tokens : List Token) → IsWithin n tokens → IsWithin m tokens
within_more n m h [] all = tt
within_more n m h (name text ∷ tokens) all = (let h2 = all.0 in omega arith, within_more n m h tokens all.1)
within_more n m h (_ ∷ tokens) all = within_more n m h tokens all

named_within : (b : ℕ) (text : List ℕ) (tokens : List Token) → IsWithin (length text) tokens
    → IsWithin (suc (length text)) (name (b ∷ before_first ends_name text) ∷ others (before_first ends_name text) tokens)
named_within b text tokens all = (
  let short = length-take (position_or_len ends_name text) text in omega arith,
  by_cases (before_first ends_name text),
)
  where
    without : (ts : List Token) → IsWithin (length text) ts → IsWithin (suc (length text)) (drop 1 ts)
    without [] h = tt
    without (name n ∷ ts) h = within_more (length text) (suc (length text)) (omega arith) ts h.1
    without (_ ∷ ts) h = within_more (length text) (suc (length text)) (omega arith) ts h

    by_cases : (more : List ℕ) → IsWithin (suc (length text)) (others more tokens)
    by_cases [] = within_more (length text) (suc (length text)) (omega arith) tokens all
    by_cases (c ∷ more) = without tokens all

-- white space, a mark or a byte of a name
each_within : (w p q r s : Bool) (n : ℕ) (tokens named : List Token) → IsWithin n tokens → IsWithin n named
    → IsWithin n (cond w tokens (option_map_or (λ mark. mark ∷ tokens) (cond p (Some opening) (cond q (Some closing) (cond r (Some comma) (cond s (Some equals) None)))) named))
each_within true p q r s n tokens named all f = all
each_within false true q r s n tokens named all f = all
each_within false false true r s n tokens named all f = all
each_within false false false true s n tokens named all f = all
each_within false false false false true n tokens named all f = all
each_within false false false false false n tokens named all f = f

tokens_within : (text : List ℕ) → IsWithin (length text) (tokens_of text)
unfolding tokens_of
tokens_within [] = tt
tokens_within (b ∷ text) =
    each_within (is_white b) (b == byte "(") (b == byte ")") (b == byte ",") (b == byte "=") (suc (length text)) (tokens_of text) (name (b ∷ before_first ends_name text) ∷ others (before_first ends_name text) (tokens_of text))
    (within_more (length text) (suc (length text)) (omega arith) (tokens_of text) (tokens_within text))
    (named_within b text (tokens_of text) (tokens_within text))

not_wide : (tokens : List Token) (n : ℕ) → n ≤ 255 → IsWithin n tokens → list_any is_wide_token tokens ≡ false
not_wide [] n h all = refl
not_wide (name text ∷ tokens) n h all =
    let short : nat_lt 255 (length text) ≡ false = false_of (nat_lt 255 (length text)) (λ e. let long = ltb-true 255 (length text) e in let at = all.0 in absurd (omega arith)) in
    both_false (nat_lt 255 (length text)) (list_any is_wide_token tokens) short (not_wide tokens n h all.1)
not_wide (_ ∷ tokens) n h all = not_wide tokens n h all

-- a short text has no wide token
pub short_text : (text : List ℕ) → length text ≤ 255 → list_any is_wide_token (tokens_of text) ≡ false
short_text text h = not_wide (tokens_of text) (length text) h (tokens_within text)

pub short_test : (text : List ℕ) → length text ≤ 255 → nat_lt 255 (length text) ≡ list_any is_wide_token (tokens_of text)
short_test text h = false_of (nat_lt 255 (length text)) (λ e. let long = ltb-true 255 (length text) e in absurd (omega arith)) ∙ sym (short_text text h)

-- ---- loops over a text

-- the text from a byte on
pub byte_at : (text : List ℕ) (i : ℕ) (b : ℕ) → i < length text → b ≡ get_or text i 0 → drop i text ≡ b ∷ drop (i + 1) text
byte_at text i b h is =
    let next : suc i ≡ i + 1 = omega arith in
    drop-cons text i 0 h ∙ ap (λ n. get_or text i 0 ∷ drop n text) next ∙ ap (λ k. k ∷ drop (i + 1) text) (sym is)

pub white_passed : (text : List ℕ) (i : ℕ) (b : ℕ) → i < length text → b ≡ get_or text i 0 → is_white b ≡ true → tokens_of (drop i text) ≡ tokens_of text
    → tokens_of (drop (i + 1) text) ≡ tokens_of text
white_passed text i b h is white e = sym (ap tokens_of (byte_at text i b h is) ∙ white_first b (drop (i + 1) text) white) ∙ e

pub ink_found : (text : List ℕ) (i : ℕ) (b : ℕ) → i < length text → b ≡ get_or text i 0 → is_white b ≡ false → begins_inked (drop i text) ≡ true
ink_found text i b h is white = ap begins_inked (byte_at text i b h is) ∙ ap not white

-- ---- the first token

-- a text by its first byte
pub first_byte : (text rest : List ℕ) (b : ℕ) → 0 < length text → b ≡ get_or text 0 0 → rest ≡ drop 1 text → text ≡ b ∷ rest
first_byte [] rest b h is e = absurd (omega arith)
first_byte (x ∷ xs) rest b h is e = ap (λ k. k ∷ xs) (sym is) ∙ ap (λ (ys : List ℕ). b ∷ ys) (sym e)

pub nothing_left : (text ink : List ℕ) → tokens_of ink ≡ tokens_of text → length ink < 1 → tokens_of text ≡ []
unfolding tokens_of
nothing_left text [] e h = sym e
nothing_left text (x ∷ xs) e h = absurd (omega arith)

-- the byte in front is a mark, or a name begins there
pub mark_ahead : (text ink : List ℕ) (b : ℕ) (m : Token) → tokens_of ink ≡ tokens_of text → begins_inked ink ≡ true → 1 ≤ length ink → b ≡ get_or ink 0 0 → Some m ≡ mark_of b
    → tokens_of text ≡ m ∷ tokens_of (take (length ink - 1) (drop 1 ink))
mark_ahead text ink b m e inked h is mark =
    let cut : ink ≡ b ∷ drop 1 ink = first_byte ink (drop 1 ink) b (omega arith) is refl in
    let white : is_white b ≡ false = not_true (is_white b) (sym (ap begins_inked cut) ∙ inked) in
    sym e ∙ ap tokens_of cut ∙ mark_first b (drop 1 ink) m white (sym mark) ∙ ap (λ (rest : List ℕ). m ∷ tokens_of rest) (sym (rest_whole ink 1))

pub name_ahead : (ink : List ℕ) (b : ℕ) → begins_inked ink ≡ true → 1 ≤ length ink → b ≡ get_or ink 0 0 → None ≡ mark_of b → begins_name ink ≡ true
name_ahead ink b inked h is mark =
    let cut : ink ≡ b ∷ drop 1 ink = first_byte ink (drop 1 ink) b (omega arith) is refl in
    let white : is_white b ≡ false = not_true (is_white b) (sym (ap begins_inked cut) ∙ inked) in
    ap begins_name cut ∙ ap not (both_false (is_white b) (is_some (mark_of b)) white (ap is_some (sym mark)))

pub cut_shorter : (text : List ℕ) (n : ℕ) → 0 < n → n ≤ length text → length (take (length text - n) (drop n text)) < length text
cut_shorter text n some h = let size = length-drop n text in let whole = ap (λ (rest : List ℕ). length rest) (rest_whole text n) in omega arith
