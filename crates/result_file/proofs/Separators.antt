-- Texts that are taken apart at a separator; and the text of a stretch, which no other stretch has.
use Rattle.std.proofs.Common.{◌≡◌, ◌≢◌, ℕ, ◌+◌, ◌%◌, ◌<◌, ◌≤◌, ◌^◌, ◌⊎◌, inl, inr, List, [], ◌∷◌, ◌++◌, refl, ap₂, sym, ◌∙◌, arith}
use Rattle.std.specs.Prelude.{decimal}
use Rattle.std.proofs.lemmas.Fmt.{decimal_by_steps, decimal_injective}
use Rattle.fm_base.specs.Names.{Bytes}
use Rattle.fm_base.specs.Once.{Lacks}
use Rattle.fault_list.specs.declared.stretch.Stretch.{Stretch}
use Rattle.fault_list.specs.Stretch.{IsStretch}
use Rattle.result_file.specs.ResultText.{stretch_text}

pub lacks_both : (a b : Bytes) (c : ℕ) → Lacks a c → Lacks b c → Lacks (a ++ b) c
lacks_both [] b c no_a no_b = no_b
lacks_both (x ∷ a) b c no_a no_b = (no_a.0, lacks_both a b c no_a.1 no_b)

-- what lacks the separator has none behind its front
pub no_separator : (a front rest : Bytes) (c : ℕ) → Lacks a c → a ≡ front ++ c ∷ rest → ⊥
no_separator [] [] rest c none e = absurd (cc)
no_separator [] (x ∷ front) rest c none e = absurd (cc)
no_separator (y ∷ a) [] rest c none e = none.0 (cc)
no_separator (y ∷ a) (x ∷ front) rest c none e = no_separator a front rest c none.1 (cc)

pub first_same : (a b x y : Bytes) (c : ℕ) → Lacks a c → Lacks b c → a ++ c ∷ x ≡ b ++ c ∷ y → (a ≡ b) × (x ≡ y)
first_same [] [] x y c no_a no_b e = (refl, cc)
first_same [] (k ∷ b) x y c no_a no_b e = (let here : k ≡ c = cc in absurd (no_b.0 here))
first_same (h ∷ a) [] x y c no_a no_b e = (let here : h ≡ c = cc in absurd (no_a.0 here))
first_same (h ∷ a) (k ∷ b) x y c no_a no_b e =
    let tails : a ++ c ∷ x ≡ b ++ c ∷ y = cc in
    let heads : h ≡ k = cc in
    let rest = first_same a b x y c no_a.1 no_b.1 tails in
    (ap₂ (λ (d : ℕ) (ds : Bytes). d ∷ ds) heads rest.0, rest.1)

-- numbers in decimal lack each byte that is no digit
pub decimal_lacks : (n c : ℕ) → n < 2 ^ 64 → (c < 48) ⊎ (57 < c) → Lacks (decimal n) c
decimal_lacks n c small other = decimal_by_steps (λ _ digits. Lacks digits c) one more n small
  where
    one : (d : ℕ) → d < 10 → Lacks ((48 + d) ∷ []) c
    one d lt = (let apart : (48 + d) ≢ c = elim other as (λ _. (48 + d) ≢ c) [ inl low ↦ omega arith | inr high ↦ omega arith ] in apart, tt)

    more : (m : ℕ) (digits : List ℕ) → 10 ≤ m → Lacks digits c → Lacks (digits ++ (48 + m % 10) ∷ []) c
    more m digits many before = lacks_both digits ((48 + m % 10) ∷ []) c before (one (m % 10) (omega arith))

-- ---- a stretch

-- FIRST and LAST, joined by a hyphen
abbrev pub range_text : Stretch → Bytes
range_text s = decimal s.first ++ 45 ∷ decimal s.last

pub with_step : (s : Stretch) → stretch_text s ≡ range_text s ++ 47 ∷ decimal s.step
with_step s = refl

module _ (s : Stretch) (is : IsStretch s) where
  pub first_small : s.first < 2 ^ 64
  first_small = let a = is.ordered in let b = is.small in omega (arith, a, b)

  pub last_small : s.last < 2 ^ 64
  last_small = let b = is.small in omega (arith, b)

  pub step_small : s.step < 2 ^ 64
  step_small = let b = is.step.1 in omega (arith, b)

  pub range_lacks : (c : ℕ) → 45 ≢ c → (c < 48) ⊎ (57 < c) → Lacks (range_text s) c
  range_lacks c apart other =
      lacks_both (decimal s.first) (45 ∷ decimal s.last) c (decimal_lacks s.first c first_small other) (apart, decimal_lacks s.last c last_small other)

  pub stretch_lacks : (c : ℕ) → 45 ≢ c → 47 ≢ c → (c < 48) ⊎ (57 < c) → Lacks (stretch_text s) c
  stretch_lacks c apart other_sign other =
      lacks_both (range_text s) (47 ∷ decimal s.step) c (range_lacks c apart other) (other_sign, decimal_lacks s.step c step_small other)

module _ (s t : Stretch) (own : IsStretch s) (other : IsStretch t) where
  pub range_same : range_text s ≡ range_text t → (s.first ≡ t.first) × (s.last ≡ t.last)
  range_same e =
      let both = first_same (decimal s.first) (decimal t.first) (decimal s.last) (decimal t.last) 45
      (decimal_lacks s.first 45 (first_small s own) (inl (omega arith))) (decimal_lacks t.first 45 (first_small t other) (inl (omega arith))) e in
      (decimal_injective s.first t.first (first_small s own) (first_small t other) both.0, decimal_injective s.last t.last (last_small s own) (last_small t other) both.1)

  pub same_numbers : s.first ≡ t.first → s.last ≡ t.last → s.step ≡ t.step → s ≡ t
  same_numbers first last step = λ i. record { first = first i; last = last i; step = step i }

  pub stretch_same : stretch_text s ≡ stretch_text t → s ≡ t
  stretch_same e =
      let both = first_same (range_text s) (range_text t) (decimal s.step) (decimal t.step) 47
      (range_lacks s own 47 (omega arith) (inl (omega arith))) (range_lacks t other 47 (omega arith) (inl (omega arith))) (sym (with_step s) ∙ e ∙ with_step t) in
      let range = range_same both.0 in
      same_numbers range.0 range.1 (decimal_injective s.step t.step (step_small s own) (step_small t other) both.1)
