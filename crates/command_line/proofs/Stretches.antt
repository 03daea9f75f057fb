-- The text of a stretch: where it is cut, and which stretch it is of.
use Rattle.std.proofs.Common.{◌≡◌, ◌∙◌, ℕ, suc, ◌+◌, ◌<◌, ◌≤◌, true, false, ◌⊎◌, inl, inr, List, [], ◌∷◌, ◌++◌, ◌==◌, length, take, drop, get_or, refl, ap, sym, subst, arith, append_assoc, take-append-drop}
use Rattle.std.specs.Prelude.{Option, Some, None, Err, position, codes, decimal}
use Rattle.std.proofs.lemmas.Bool.{eqb-true}
use Rattle.std.proofs.lemmas.List.{get_or-take, length-take-le, take_more}
use Rattle.std.proofs.lemmas.List.Quantifiers.{position-Some}
use Rattle.std.proofs.lemmas.List.Sums.{fails_before_first}
use Rattle.std.proofs.lemmas.Grind.{common_steps}
use Rattle.std.specs.List.{position_or_len}
use Rattle.clap.specs.Words.{Row, Text}
use Rattle.fm_base.specs.Once.{Lacks}
use Rattle.fm_base.specs.Plain.{plain_number}
use Rattle.fm_base.proofs.PlainNumbers.{plain_number-decimal, plain_number-some}
use Rattle.fm_base.proofs.Tests.{clash}
use Rattle.fault_list.specs.Stretch.{AreFlipCycles, IsStretch, cycles_within}
use Rattle.fault_list.specs.declared.stretch.Stretch.{Stretch}
use Rattle.result_file.specs.ResultText.{stretch_text}
use Rattle.result_file.proofs.Separators.{decimal_lacks, first_same, first_small, last_small, no_separator, range_lacks, range_same, range_text, same_numbers, step_small, stretch_same, with_step}
use Rattle.command_line.specs.Cycles.{GiveFlips, IsCut, IsRangeWith, IsStretchOf}
use Rattle.command_line.specs.WordsSteps.{Finds, IsRead}
use Rattle.command_line.specs.declared.read.WordsRefusal.{WordsRefusal}
use Rattle.command_line.specs.declared.read.WordsRefusal.TheVariants.{Usage, Memory}
use Rattle.command_line.specs.Words.{AreFlips, HasSettings, IsStretchText, text_or}
use Rattle.command_line.proofs.CycleLists.{same_cycles}

-- ---- a text is cut

same_byte : (sign : ℕ) → (sign == sign) ≡ true
same_byte sign = grind arith

lacks_of : (text : Text) (sign : ℕ) → ((k : ℕ) → k < length text → (get_or text k 0 == sign) ≡ false) → Lacks text sign
lacks_of [] sign none = tt
lacks_of (b ∷ text) sign none = (
  (λ same. clash (b == sign) (ap (λ x. x == sign) same ∙ same_byte sign) (none 0 (omega arith))),
  lacks_of text sign (λ k lt. none (suc k) (omega (arith, lt))),
)

-- where no byte is the sign
pub uncut : (text : Text) (sign : ℕ) → position (λ b. b == sign) text ≡ None → Lacks text sign
uncut text sign e =
    let past : length text ≤ position_or_len (λ b. b == sign) text = grind (arith, common_steps) in
    lacks_of text sign (λ k lt. fails_before_first (λ b. b == sign) text k 0 (omega (arith, past, lt)))

-- and at the first that is
pub cut_at : (text : Text) (sign place : ℕ) → position (λ b. b == sign) text ≡ Some place → IsCut sign text (take place text) (drop (place + 1) text)
cut_at text sign place e =
    let found = position-Some (λ b. b == sign) text place 0 e in
    let lt : place < length text = found.0 in
    let here : get_or text place 0 ≡ sign = eqb-true (get_or text place 0) sign found.1 in
    let size : length (take place text) ≡ place = length-take-le place text (omega (arith, lt)) in
    record {
      joined = sym (take-append-drop (place + 1) text) ∙ ap (λ front. front ++ drop (place + 1) text) (take_more text place 0 lt)
          ∙ append_assoc (take place text) (get_or text place 0 ∷ []) (drop (place + 1) text)
          ∙ ap (λ b. take place text ++ b ∷ drop (place + 1) text) here;
      first = lacks_of (take place text) sign (λ k below.
          let small : k < place = omega (arith, below, size) in
          ap (λ b. b == sign) (get_or-take place text k 0 small) ∙ found.2 k small);
    }

-- ---- FIRST and LAST

abbrev pub NoRange : Text → ℕ → Type 0
NoRange text step = (s : Stretch) → ¬ (IsRangeWith text step s)

-- they are joined by a hyphen
pub range_uncut : (text : Text) (step : ℕ) → Lacks text 45 → NoRange text step
range_uncut text step none s is = no_separator text (decimal s.first) (decimal s.last) 45 none is.spelled

module _ (text before behind : Text) (step : ℕ) (cut : IsCut 45 text before behind) where
  parts : (s : Stretch) → IsRangeWith text step s → (before ≡ decimal s.first) × (behind ≡ decimal s.last)
  parts s is = first_same before (decimal s.first) behind (decimal s.last) 45 cut.first
      (decimal_lacks s.first 45 (first_small s is.within) (inl (omega arith))) (sym cut.joined ∙ is.spelled)

  read_first : (s : Stretch) → IsRangeWith text step s → plain_number 65535 before ≡ Some s.first
  read_first s is =
      let low : s.first ≤ 65535 = let a = is.within.ordered in let b = is.within.small in omega (arith, a, b) in
      ap (plain_number 65535) (parts s is).0 ∙ plain_number-decimal 65535 s.first low (first_small s is.within)

  read_last : (s : Stretch) → IsRangeWith text step s → plain_number 65535 behind ≡ Some s.last
  read_last s is = ap (plain_number 65535) (parts s is).1 ∙ plain_number-decimal 65535 s.last is.within.small (last_small s is.within)

  pub no_first : plain_number 65535 before ≡ None → NoRange text step
  no_first e s is = let both : Some s.first ≡ None = sym (read_first s is) ∙ e in cc

  pub no_last : plain_number 65535 behind ≡ None → NoRange text step
  no_last e s is = let both : Some s.last ≡ None = sym (read_last s is) ∙ e in cc

  -- what was read is the stretch of FIRST and LAST
  pub range_read : (first last : ℕ) → plain_number 65535 before ≡ Some first → plain_number 65535 behind ≡ Some last → first ≤ last → 1 ≤ step → step ≤ 65535
      → IsRangeWith text step (record { first = first; last = last; step = step })
  range_read first last e f le some small =
      let low = plain_number-some 65535 first before e in
      let high = plain_number-some 65535 last behind f in
      record {
        spelled = cut.joined ∙ ap (λ t. t ++ 45 ∷ behind) low.0 ∙ ap (λ t. decimal first ++ 45 ∷ t) high.0;
        stepped = refl;
        within = record { ordered = le; small = high.1; step = (some, small) };
      }

  -- they don't rise, or the step leads nowhere
  pub no_range : (first last : ℕ) → plain_number 65535 before ≡ Some first → plain_number 65535 behind ≡ Some last → (last < first) ⊎ (step ≡ 0) → NoRange text step
  no_range first last e f bad s is =
      let low : first ≡ s.first = (let both : Some first ≡ Some s.first = sym e ∙ read_first s is in cc) in
      let high : last ≡ s.last = (let both : Some last ≡ Some s.last = sym f ∙ read_last s is in cc) in
      let ordered = is.within.ordered in
      let stepped = is.stepped in
      let some = is.within.step.0 in
      elim bad as (λ _. ⊥) [ inl less ↦ omega (arith, less, low, high, ordered) | inr none ↦ omega (arith, none, stepped, some) ]

-- ---- the whole text

abbrev pub NoStretch : Text → Type 0
NoStretch text = (s : Stretch) → ¬ (IsStretchOf text s)

-- without a slash the step is 1
pub plain_stretch : (text : Text) (s : Stretch) → IsRangeWith text 1 s → IsStretchOf text s
plain_stretch text s is = (inr (is.spelled, is.stepped), is.within)

pub no_plain : (text : Text) → Lacks text 47 → NoRange text 1 → NoStretch text
no_plain text none bad s is = elim is.0 as (λ _. ⊥) [
  | inl whole ↦ no_separator text (range_text s) (decimal s.step) 47 none (whole ∙ with_step s)
  | inr plain ↦ bad s (record { spelled = plain.0; stepped = plain.1; within = is.1 })
]

pub found_plain : (text : Text) (found : Option Stretch) → Lacks text 47 → Finds (IsRangeWith text 1) found → Finds (IsStretchOf text) found
found_plain text None none bad = no_plain text none bad
found_plain text (Some s) none is = plain_stretch text s is

module _ (text before behind : Text) (cut : IsCut 47 text before behind) where
  stretch_parts : (s : Stretch) → IsStretchOf text s → (before ≡ range_text s) × (behind ≡ decimal s.step)
  stretch_parts s is = elim is.0 as (λ _. (before ≡ range_text s) × (behind ≡ decimal s.step)) [
    | inl whole ↦
        first_same before (range_text s) behind (decimal s.step) 47 cut.first (range_lacks s is.1 47 (omega arith) (inl (omega arith))) (sym cut.joined ∙ whole ∙ with_step s)
    | inr plain ↦ absurd (no_separator (range_text s) before behind 47 (range_lacks s is.1 47 (omega arith) (inl (omega arith))) (sym plain.0 ∙ cut.joined))
  ]

  read_step : (s : Stretch) → IsStretchOf text s → plain_number 65535 behind ≡ Some s.step
  read_step s is = ap (plain_number 65535) (stretch_parts s is).1 ∙ plain_number-decimal 65535 s.step is.1.step.1 (step_small s is.1)

  pub no_step : plain_number 65535 behind ≡ None → NoStretch text
  no_step e s is = let both : Some s.step ≡ None = sym (read_step s is) ∙ e in cc

  pub stepped_stretch : (step : ℕ) (s : Stretch) → plain_number 65535 behind ≡ Some step → IsRangeWith before step s → IsStretchOf text s
  stepped_stretch step s e is = (
    inl (cut.joined ∙ ap (λ t. t ++ 47 ∷ behind) is.spelled
        ∙ ap (λ t. range_text s ++ 47 ∷ t) ((plain_number-some 65535 step behind e).0 ∙ ap decimal (sym is.stepped)) ∙ sym (with_step s)),
    is.within,
  )

  pub no_stepped : (step : ℕ) → plain_number 65535 behind ≡ Some step → NoRange before step → NoStretch text
  no_stepped step e bad s is =
      let both : Some step ≡ Some s.step = sym e ∙ read_step s is in
      let same : s.step ≡ step = cc in
      bad s (record { spelled = (stretch_parts s is).0; stepped = same; within = is.1 })

  pub found_stepped : (step : ℕ) (found : Option Stretch) → plain_number 65535 behind ≡ Some step → Finds (IsRangeWith before step) found → Finds (IsStretchOf text) found
  found_stepped step None e bad = no_stepped step e bad
  found_stepped step (Some s) e is = stepped_stretch step s e is

-- ---- the flips of two texts

-- `none` is no stretch
pub none_stretch : (s : Stretch) → ¬ (IsStretchText (codes "none") s)
none_stretch s is =
    let lacks : Lacks (codes "none") 45 = (omega arith, (omega arith, (omega arith, (omega arith, tt)))) in
    let no_slash : Lacks (codes "none") 47 = (omega arith, (omega arith, (omega arith, (omega arith, tt)))) in
    elim is as (λ _. ⊥) [
      | inl whole ↦ no_separator (codes "none") (range_text s) (decimal s.step) 47 no_slash (whole ∙ with_step s)
      | inr plain ↦ no_separator (codes "none") (decimal s.first) (decimal s.last) 45 lacks plain.0
    ]

pub same_stretch : (text : Text) (s t : Stretch) → IsStretchOf text s → IsStretchOf text t → s ≡ t
same_stretch text s t p q = by_texts p.0 q.0
  where
    apart : (a b : Stretch) → IsStretch b → text ≡ stretch_text a → text ≡ range_text b → ⊥
    apart a b is whole plain =
        no_separator (range_text b) (range_text a) (decimal a.step) 47 (range_lacks b is 47 (omega arith) (inl (omega arith))) (sym plain ∙ whole ∙ with_step a)

    by_texts : IsStretchText text s → IsStretchText text t → s ≡ t
    by_texts (inl a) (inl b) = stretch_same s t p.1 q.1 (sym a ∙ b)
    by_texts (inl a) (inr b) = absurd (apart s t q.1 a b.0)
    by_texts (inr a) (inl b) = absurd (apart t s p.1 b a.0)
    by_texts (inr a) (inr b) =
        let range = range_same s t p.1 q.1 (sym a.0 ∙ b.0) in
        same_numbers s t p.1 q.1 range.0 range.1 (a.1 ∙ sym b.1)

-- two texts give one list of flips
pub same_flips : (listed upsets : Text) (s t : Option Stretch) (a b : List ℕ) → AreFlips listed upsets s a → AreFlips listed upsets t b → (s ≡ t) × (a ≡ b)
same_flips listed upsets None None a b p q = (refl, same_cycles 16 listed a b (p.1, p.2) (q.1, q.2))
same_flips listed upsets None (Some t) a b p q = absurd (none_stretch t (subst (λ text. IsStretchText text t) p.0 q.1))
same_flips listed upsets (Some s) None a b p q = absurd (none_stretch s (subst (λ text. IsStretchText text s) q.0 p.1))
same_flips listed upsets (Some s) (Some t) a b p q =
    let same : s ≡ t = same_stretch upsets s t (p.1, p.2.0) (q.1, q.2.0) in
    (ap Some same, p.2.1 ∙ ap (λ s. cycles_within s) same ∙ sym q.2.1)

-- they are within their limits
pub flips_fit : (listed upsets : Text) (stretch : Option Stretch) (flips : List ℕ) → AreFlips listed upsets stretch flips → AreFlipCycles stretch flips
flips_fit listed upsets None flips are = are.2
flips_fit listed upsets (Some s) flips are = are.2

-- settings whose flips aren't those of the two texts
pub no_flips : (rows : List Row) (r : WordsRefusal) → IsRead (GiveFlips (text_or rows (codes "none") (codes "flips")) (text_or rows (codes "none") (codes "upsets"))) (Err r)
    → IsRead (HasSettings rows) (Err r)
no_flips rows Usage bad = λ set has. bad (set.flips, set.stretch) has.flips
no_flips rows (Memory no_room) bad = tt
