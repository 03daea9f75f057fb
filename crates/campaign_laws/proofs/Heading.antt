-- Two campaigns with one header.
use Rattle.std.proofs.Common.{◌≡◌, ℕ, zero, suc, ◌<◌, ◌≤◌, ◌^◌, ◌⊎◌, inl, inr, List, [], ◌∷◌, ◌++◌, length, get_or, refl, ap, sym, ◌∙◌, length-append, arith}
use Rattle.std.specs.Prelude.{All, Option, None, Some, codes, decimal, slice_index}
use Rattle.std.specs.Int.{byte_at, bytes_high_first, to_be_bytes, w32}
use Rattle.std.proofs.lemmas.List.{append_cancel_left}
use Rattle.std.proofs.lemmas.Fmt.{decimal_injective}
use Rattle.std.proofs.lemmas.List.Elements.{All-append, All-cons, All-nil, All-weaker}
use Rattle.sha2.specs.Sha256.{digest_bytes, final_hash, initial_hash_256, sha256}
use Rattle.sha2.proofs.Facts256.{length-sha256}
use Rattle.fm_base.specs.Names.{Bytes}
use Rattle.fm_base.specs.Text.{hex, line, spaced}
use Rattle.fm_base.proofs.Digits.{length-hex}
use Rattle.campaign_plan.specs.Kept.{AreSettings}
use Rattle.fault_list.specs.Faults.{AreCycles}
use Rattle.fault_list.specs.Stretch.{AreFlipCycles, IsStretch, cycles_within}
use Rattle.fault_list.specs.declared.stretch.Stretch.{Stretch}
use Rattle.fm_base.specs.Once.{Lacks}
use Rattle.result_file.specs.ResultText.{cycles_text, digest_text, header_text, listed_words, settings_words, stretch_text, stretch_words}
use Rattle.result_file.proofs.Separators.{decimal_lacks, first_same, stretch_lacks, stretch_same}
use Rattle.result_file.proofs.Words.{header_text_put}
use Rattle.campaign_laws.specs.Headers.{AreSame, Collide, DigestIsOfText, HaveCollision, HeadersTell, Sources, digested}
use Rattle.campaign_laws.proofs.Separating.{cycles_lack, cycles_same, digests_same, ends_same, length-digest_text, same_or_not}

-- ---- a digest is 32 bytes

abbrev Byte : ℕ → Type 0
Byte b = b < 256

byte_small : (i n : ℕ) → byte_at i n < 256
byte_small zero n = omega arith
byte_small (suc i) n = omega arith

high_first_small : (k n : ℕ) → All Byte (bytes_high_first k n)
high_first_small zero n = All-nil Byte
high_first_small (suc k) n = All-cons Byte (byte_at k n) (bytes_high_first k n) (byte_small k n) (high_first_small k n)

digest_small : (h : List ℕ) (n : ℕ) → All Byte (digest_bytes h n)
unfolding digest_bytes
digest_small h zero = All-nil Byte
digest_small h (suc n) = All-append Byte (digest_bytes h n) (to_be_bytes w32 (slice_index h n)) (digest_small h n) (high_first_small 4 (slice_index h n))

sha256_small : (m : Bytes) → All Byte (sha256 m)
unfolding sha256
sha256_small m = digest_small (final_hash initial_hash_256 m) 8

same_digest : (a b : Bytes) → digest_text (sha256 a) ≡ digest_text (sha256 b) → sha256 a ≡ sha256 b
same_digest a b e = digests_same (sha256 a) (sha256 b) (sha256_small a) (sha256_small b) (length-sha256 a ∙ sym (length-sha256 b)) e

-- ---- the line of a file

file_line : Bytes → Bytes
file_line bytes = line (digest_text (sha256 bytes) ∷ [])

length-file_line : (bytes : Bytes) → length (file_line bytes) ≡ 65
unfolding file_line
length-file_line bytes =
    omega (arith, length-append (digest_text (sha256 bytes)) (10 ∷ []), length-digest_text (sha256 bytes), length-sha256 bytes)

file_line_same : (a b : Bytes) → file_line a ≡ file_line b → sha256 a ≡ sha256 b
unfolding file_line
file_line_same a b e = same_digest a b (ends_same (digest_text (sha256 a)) (digest_text (sha256 b)) (10 ∷ []) (10 ∷ []) refl e).0

-- ---- the line of the settings

small_cycles : (most : ℕ) (cycles : List ℕ) → AreCycles most cycles → All (λ cycle. cycle < 2 ^ 64) cycles
small_cycles most cycles are = All-weaker (λ cycle. cycle ≤ 65535) (λ cycle. cycle < 2 ^ 64) (λ cycle le. omega (arith, le)) cycles are.small

listed_same : (f g : ℕ) (a b c d : List ℕ) → f < 2 ^ 64 → g < 2 ^ 64 → All (λ cycle. cycle < 2 ^ 64) a → All (λ cycle. cycle < 2 ^ 64) b
    → All (λ cycle. cycle < 2 ^ 64) c → All (λ cycle. cycle < 2 ^ 64) d
    → spaced (listed_words f a c) ≡ spaced (listed_words g b d) → (f ≡ g) × (a ≡ b) × (c ≡ d)
listed_same f g a b [] [] f_small g_small a_small b_small c_small d_small e =
    let rest : decimal f ++ 32 ∷ cycles_text a ≡ decimal g ++ 32 ∷ cycles_text b =
    append_cancel_left (codes "fmeda-settings 1 ") (decimal f ++ 32 ∷ cycles_text a) (decimal g ++ 32 ∷ cycles_text b) e in
    let both = first_same (decimal f) (decimal g) (cycles_text a) (cycles_text b) 32 (decimal_lacks f 32 f_small (inl (omega arith))) (decimal_lacks g 32 g_small (inl (omega arith))) rest in
    (decimal_injective f g f_small g_small both.0, cycles_same a b a_small b_small both.1, refl)
listed_same f g a b [] (y ∷ d) f_small g_small a_small b_small c_small d_small e =
    let form : 49 ≡ 50 = ap (λ text. get_or text 15 0) e in absurd (omega (arith, form))
listed_same f g a b (x ∷ c) [] f_small g_small a_small b_small c_small d_small e =
    let form : 50 ≡ 49 = ap (λ text. get_or text 15 0) e in absurd (omega (arith, form))
listed_same f g a b (x ∷ c) (y ∷ d) f_small g_small a_small b_small c_small d_small e =
    let behind_f : Bytes = cycles_text a ++ 32 ∷ cycles_text (x ∷ c) in
    let behind_g : Bytes = cycles_text b ++ 32 ∷ cycles_text (y ∷ d) in
    let rest : decimal f ++ 32 ∷ behind_f ≡ decimal g ++ 32 ∷ behind_g =
    append_cancel_left (codes "fmeda-settings 2 ") (decimal f ++ 32 ∷ behind_f) (decimal g ++ 32 ∷ behind_g) e in
    let both = first_same (decimal f) (decimal g) behind_f behind_g 32 (decimal_lacks f 32 f_small (inl (omega arith))) (decimal_lacks g 32 g_small (inl (omega arith))) rest in
    let cycles = first_same (cycles_text a) (cycles_text b) (cycles_text (x ∷ c)) (cycles_text (y ∷ d)) 32 (cycles_lack a a_small) (cycles_lack b b_small) both.1 in
    (decimal_injective f g f_small g_small both.0, cycles_same a b a_small b_small cycles.0, cycles_same (x ∷ c) (y ∷ d) c_small d_small cycles.1)

stretches_same : (f g : ℕ) (s t : Stretch) (c d : List ℕ) → f < 2 ^ 64 → g < 2 ^ 64 → IsStretch s → IsStretch t
    → All (λ cycle. cycle < 2 ^ 64) c → All (λ cycle. cycle < 2 ^ 64) d
    → spaced (stretch_words f s c) ≡ spaced (stretch_words g t d) → (f ≡ g) × (s ≡ t) × (c ≡ d)
stretches_same f g s t c d f_small g_small own other c_small d_small e =
    let behind_f : Bytes = stretch_text s ++ 32 ∷ cycles_text c in
    let behind_g : Bytes = stretch_text t ++ 32 ∷ cycles_text d in
    let rest : decimal f ++ 32 ∷ behind_f ≡ decimal g ++ 32 ∷ behind_g =
    append_cancel_left (codes "fmeda-settings 3 ") (decimal f ++ 32 ∷ behind_f) (decimal g ++ 32 ∷ behind_g) e in
    let both = first_same (decimal f) (decimal g) behind_f behind_g 32 (decimal_lacks f 32 f_small (inl (omega arith))) (decimal_lacks g 32 g_small (inl (omega arith))) rest in
    let lacks : (u : Stretch) → IsStretch u → Lacks (stretch_text u) 32 = λ u is. stretch_lacks u is 32 (omega arith) (omega arith) (inl (omega arith)) in
    let parts = first_same (stretch_text s) (stretch_text t) (cycles_text c) (cycles_text d) 32 (lacks s own) (lacks t other) both.1 in
    (decimal_injective f g f_small g_small both.0, stretch_same s t own other parts.0, cycles_same c d c_small d_small parts.1)

-- the form of the settings tells whether they have a stretch
not_listed : (f g : ℕ) (a c : List ℕ) (t : Stretch) (d : List ℕ) → spaced (listed_words f a c) ≡ spaced (stretch_words g t d) → ⊥
not_listed f g a [] t d e = let form : 49 ≡ 51 = ap (λ text. get_or text 15 0) e in absurd (omega (arith, form))
not_listed f g a (x ∷ c) t d e = let form : 50 ≡ 51 = ap (λ text. get_or text 15 0) e in absurd (omega (arith, form))

abbrev AreAlike : (f g : ℕ) (s t : Option Stretch) (a b c d : List ℕ) → Type 0
AreAlike f g s t a b c d = (f ≡ g) × (s ≡ t) × (a ≡ b) × (c ≡ d)

settings_same : (f g : ℕ) (s t : Option Stretch) (a b c d : List ℕ) → f < 2 ^ 64 → g < 2 ^ 64 → AreFlipCycles s a → AreFlipCycles t b → AreCycles 4 c → AreCycles 4 d
    → spaced (settings_words f s a c) ≡ spaced (settings_words g t b d) → AreAlike f g s t a b c d
settings_same f g None None a b c d f_small g_small own other c_few d_few e =
    let same = listed_same f g a b c d f_small g_small (small_cycles 16 a own) (small_cycles 16 b other) (small_cycles 4 c c_few) (small_cycles 4 d d_few) e in
    (same.0, refl, same.1, same.2)
settings_same f g None (Some t) a b c d f_small g_small own other c_few d_few e = absurd (not_listed f g a c t d e)
settings_same f g (Some s) None a b c d f_small g_small own other c_few d_few e = absurd (not_listed g f b d s c (sym e))
settings_same f g (Some s) (Some t) a b c d f_small g_small own other c_few d_few e =
    let same = stretches_same f g s t c d f_small g_small own.0 other.0 (small_cycles 4 c c_few) (small_cycles 4 d d_few) e in
    (same.0, ap Some same.1, own.1 ∙ ap (λ u. cycles_within u) same.1 ∙ sym other.1, same.2)

-- ---- the whole text

same_or_collide : (a b : Bytes) → sha256 a ≡ sha256 b → (a ≡ b) ⊎ Collide a b
same_or_collide a b e = elim (same_or_not a b) as (λ _. (a ≡ b) ⊎ Collide a b) [ inl same ↦ inl same | inr apart ↦ inr (apart, e) ]

-- the text, by the words of the settings
abbrev worded : Sources → Bytes
worded s =
    let set = s.settings in
    line (settings_words set.ftti set.stretch set.flips set.pulses) ++ file_line s.netlist ++ file_line s.workload ++ file_line s.rates ++ file_line s.points

is_worded : (s : Sources) → digested s ≡ worded s
unfolding file_line
is_worded s = by_form s.settings.stretch s.settings.pulses refl refl
  where
    by_form : (stretch : Option Stretch) (pulses : List ℕ) → s.settings.stretch ≡ stretch → s.settings.pulses ≡ pulses → digested s ≡ worded s
    by_form None [] e f = rw (e, f) refl
    by_form None (cycle ∷ cycles) e f = rw (e, f) refl
    by_form (Some stretch) pulses e f = rw e refl

module _ (s t : Sources) where
  by_files : s.settings.ftti ≡ t.settings.ftti → s.settings.stretch ≡ t.settings.stretch → s.settings.flips ≡ t.settings.flips → s.settings.pulses ≡ t.settings.pulses
      → (s.netlist ≡ t.netlist) ⊎ Collide s.netlist t.netlist → (s.workload ≡ t.workload) ⊎ Collide s.workload t.workload
      → (s.rates ≡ t.rates) ⊎ Collide s.rates t.rates → (s.points ≡ t.points) ⊎ Collide s.points t.points → AreSame s t ⊎ HaveCollision s t
  by_files f u a c (inl n) (inl w) (inl r) (inl p) = inl (record { ftti = f; flips = a; stretch = u; pulses = c; netlist = n; workload = w; rates = r; points = p })
  by_files f u a c (inr n) w r p = inr (inr (inl n))
  by_files f u a c (inl n) (inr w) r p = inr (inr (inr (inl w)))
  by_files f u a c (inl n) (inl w) (inr r) p = inr (inr (inr (inr (inl r))))
  by_files f u a c (inl n) (inl w) (inl r) (inr p) = inr (inr (inr (inr (inr p))))

  texts_tell : AreSettings s.settings → AreSettings t.settings → digested s ≡ digested t → AreSame s t ⊎ HaveCollision s t
  texts_tell own other e =
      let set = s.settings in
      let set' = t.settings in
      let own_line : Bytes = line (settings_words set.ftti set.stretch set.flips set.pulses) in
      let other_line : Bytes = line (settings_words set'.ftti set'.stretch set'.flips set'.pulses) in
      let size : (a b : Bytes) → length (file_line a) ≡ length (file_line b) = λ a b. length-file_line a ∙ sym (length-file_line b) in
      let points = ends_same (((own_line ++ file_line s.netlist) ++ file_line s.workload) ++ file_line s.rates)
      (((other_line ++ file_line t.netlist) ++ file_line t.workload) ++ file_line t.rates) (file_line s.points) (file_line t.points) (size s.points t.points) (sym (is_worded s) ∙ e ∙ is_worded t) in
      let rates = ends_same ((own_line ++ file_line s.netlist) ++ file_line s.workload) ((other_line ++ file_line t.netlist) ++ file_line t.workload)
      (file_line s.rates) (file_line t.rates) (size s.rates t.rates) points.0 in
      let workload = ends_same (own_line ++ file_line s.netlist) (other_line ++ file_line t.netlist) (file_line s.workload) (file_line t.workload) (size s.workload t.workload) rates.0 in
      let netlist = ends_same own_line other_line (file_line s.netlist) (file_line t.netlist) (size s.netlist t.netlist) workload.0 in
      let words = ends_same (spaced (settings_words set.ftti set.stretch set.flips set.pulses)) (spaced (settings_words set'.ftti set'.stretch set'.flips set'.pulses)) (10 ∷ []) (10 ∷ []) refl netlist.0 in
      let settings = settings_same set.ftti set'.ftti set.stretch set'.stretch set.flips set'.flips set.pulses set'.pulses
      (let le = own.ftti in omega (arith, le)) (let le = other.ftti in omega (arith, le)) own.flips other.flips own.pulses other.pulses words.0 in
      by_files settings.0 settings.1 settings.2 settings.3
      (same_or_collide s.netlist t.netlist (file_line_same s.netlist t.netlist netlist.1))
      (same_or_collide s.workload t.workload (file_line_same s.workload t.workload workload.1))
      (same_or_collide s.rates t.rates (file_line_same s.rates t.rates rates.1))
      (same_or_collide s.points t.points (file_line_same s.points t.points points.1))

  by_text : AreSettings s.settings → AreSettings t.settings → (digested s ≡ digested t) ⊎ Collide (digested s) (digested t) → AreSame s t ⊎ HaveCollision s t
  by_text own other (inl same) = texts_tell own other same
  by_text own other (inr apart) = inr (inl apart)

-- ---- the header

header_same : (a b : Bytes) (m n : ℕ) → header_text (sha256 a) m ≡ header_text (sha256 b) n → sha256 a ≡ sha256 b
header_same a b m n e =
    let front_a : Bytes = codes "fmeda-result 1 " ++ digest_text (sha256 a) in
    let front_b : Bytes = codes "fmeda-result 1 " ++ digest_text (sha256 b) in
    let whole : ((front_a ++ 32 ∷ []) ++ hex 8 m) ++ 10 ∷ [] ≡ ((front_b ++ 32 ∷ []) ++ hex 8 n) ++ 10 ∷ [] =
    sym (header_text_put (sha256 a) m) ∙ e ∙ header_text_put (sha256 b) n in
    let first = ends_same ((front_a ++ 32 ∷ []) ++ hex 8 m) ((front_b ++ 32 ∷ []) ++ hex 8 n) (10 ∷ []) (10 ∷ []) refl whole in
    let second = ends_same (front_a ++ 32 ∷ []) (front_b ++ 32 ∷ []) (hex 8 m) (hex 8 n) (length-hex 8 m ∙ sym (length-hex 8 n)) first.0 in
    let third = ends_same front_a front_b (32 ∷ []) (32 ∷ []) refl second.0 in
    same_digest a b (append_cancel_left (codes "fmeda-result 1 ") (digest_text (sha256 a)) (digest_text (sha256 b)) third.0)

pub of_text : DigestIsOfText
of_text s = refl

pub headers_tell : HeadersTell
headers_tell s t m n own other e =
    by_text s t own other (same_or_collide (digested s) (digested t) (header_same (digested s) (digested t) m n e))
