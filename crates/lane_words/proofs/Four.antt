-- Four words, of which none has a bit, or some has.
use Rattle.std.proofs.Common.{◌≡◌, ◌≢◌, inl, inr, ℕ, ◌<◌, ◌≤◌, List, bit_or, get_or, ap₂, subst, sym, arith}
use Rattle.std.proofs.lemmas.Bool.{cases_eq}
use Rattle.std.proofs.lemmas.Nat.{le_or_l, le_or_r}

-- the bits that some of the four has
abbrev pub joined : List ℕ → ℕ
joined words = bit_or (bit_or (get_or words 0 0) (get_or words 1 0)) (bit_or (get_or words 2 0) (get_or words 3 0))

pub none_of_four : (words : List ℕ) → joined words ≡ 0 → (i : ℕ) → i < 4 → get_or words i 0 ≡ 0
none_of_four words none i lt =
    elim (cases_eq i 0) [
      | inl first ↦ at 0 i first (omega (arith, none, low, le_or_l (get_or words 0 0) (get_or words 1 0)))
      | inr more ↦ elim (cases_eq i 1) [
        | inl second ↦ at 1 i second (omega (arith, none, low, le_or_r (get_or words 0 0) (get_or words 1 0)))
        | inr rest ↦ elim (cases_eq i 2) [
          | inl third ↦ at 2 i third (omega (arith, none, high, le_or_l (get_or words 2 0) (get_or words 3 0)))
          | inr last ↦ at 3 i (omega (arith, lt, more, rest, last)) (omega (arith, none, high, le_or_r (get_or words 2 0) (get_or words 3 0)))
        ]
      ]
    ]
  where
    low : bit_or (get_or words 0 0) (get_or words 1 0) ≤ joined words
    low = le_or_l (bit_or (get_or words 0 0) (get_or words 1 0)) (bit_or (get_or words 2 0) (get_or words 3 0))

    high : bit_or (get_or words 2 0) (get_or words 3 0) ≤ joined words
    high = le_or_r (bit_or (get_or words 0 0) (get_or words 1 0)) (bit_or (get_or words 2 0) (get_or words 3 0))

    at : (j i : ℕ) → i ≡ j → get_or words j 0 ≡ 0 → get_or words i 0 ≡ 0
    at j i same zero = subst (λ k. get_or words k 0 ≡ 0) (sym same) zero

pub some_of_four : (words : List ℕ) → joined words ≢ 0 → (i : ℕ) × (i < 4) × (get_or words i 0 ≢ 0)
some_of_four words some =
    elim (cases_eq (get_or words 0 0) 0) as (λ _. (i : ℕ) × (i < 4) × (get_or words i 0 ≢ 0)) [
      | inr here ↦ (0, omega arith, here)
      | inl first ↦ elim (cases_eq (get_or words 1 0) 0) as (λ _. (i : ℕ) × (i < 4) × (get_or words i 0 ≢ 0)) [
        | inr here ↦ (1, omega arith, here)
        | inl second ↦ elim (cases_eq (get_or words 2 0) 0) as (λ _. (i : ℕ) × (i < 4) × (get_or words i 0 ≢ 0)) [
          | inr here ↦ (2, omega arith, here)
          | inl third ↦ elim (cases_eq (get_or words 3 0) 0) as (λ _. (i : ℕ) × (i < 4) × (get_or words i 0 ≢ 0)) [
            | inr here ↦ (3, omega arith, here)
            | inl fourth ↦ absurd (some (ap₂ bit_or (ap₂ bit_or first second) (ap₂ bit_or third fourth)))
          ]
        ]
      ]
    ]
