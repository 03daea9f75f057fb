-- Identifier codes: what they number, and how they are written.
use Rattle.std.proofs.Common.{◌≡◌, ◌∙◌, ap, sym, refl, ℕ, zero, suc, ◌+◌, ◌-◌, ◌*◌, ◌/◌, ◌%◌, ◌<◌, ◌≤◌, Bool, true, false, [], ◌∷◌, ◌++◌, append_assoc, append-nil, arith}
use Rattle.std.specs.Prelude.{nat_lt, if◌then◌else◌}
use Rattle.fm_base.specs.Names.{Bytes}
use Rattle.wave_dump.specs.Dump.{code_within}
use Rattle.wave_dump.specs.Laws.{CodesAreApart}

-- the number of a code, from 1: its characters are digits from 1 to 94, the least first
number_of_code : Bytes → ℕ
number_of_code [] = 0
number_of_code (b ∷ code) = (b - 32) + 94 * number_of_code code

-- how many numbers have a code of at most so many characters
room : ℕ → ℕ
room zero = 0
room (suc most) = 94 + 94 * room most

code_numbers : (most n : ℕ) → n < room most → number_of_code (code_within most n) ≡ n + 1
unfolding room number_of_code code_within
code_numbers zero n lt = absurd (omega (arith, lt))
code_numbers (suc most) n lt = by_size (nat_lt n 94) refl (λ fits. code_numbers most (n / 94 - 1) fits)
  where
    by_size : (b : Bool) → nat_lt n 94 ≡ b → (n / 94 - 1 < room most → number_of_code (code_within most (n / 94 - 1)) ≡ n / 94 - 1 + 1)
        → (33 + n % 94 - 32) + 94 * number_of_code (if b then [] else code_within most (n / 94 - 1)) ≡ n + 1
    by_size true e rest = (let small : n < 94 = grind (arith, e) in omega (arith, small))
    by_size false e rest =
        let large : 94 ≤ n = grind (arith, e) in
        let fits : n / 94 - 1 < room most = omega (arith, lt, large) in
        omega (arith, large, rest fits)

pub codes_apart : CodesAreApart
unfolding room
codes_apart a b a_small b_small same =
    let first = code_numbers 3 a (omega (arith, a_small)) in
    let second = code_numbers 3 b (omega (arith, b_small)) in
    let numbers : a + 1 ≡ b + 1 = sym first ∙ ap number_of_code same ∙ second in
    omega (arith, numbers)

-- ---- a code, character by character

pub code_none : (n : ℕ) → code_within 0 n ≡ []
unfolding code_within
code_none n = refl

pub code_more : (most n : ℕ) → 0 < most → code_within most n ≡ (33 + n % 94) ∷ (if nat_lt n 94 then [] else code_within (most - 1) (n / 94 - 1))
unfolding code_within
code_more zero n lt = absurd (omega (arith, lt))
code_more (suc most) n lt =
    let back : most ≡ suc most - 1 = omega arith in
    ap (λ m. (33 + n % 94) ∷ (if nat_lt n 94 then [] else code_within m (n / 94 - 1))) back

-- a character and the rest
pub code_long : (old mid new : Bytes) (most n : ℕ) → 0 < most → 94 ≤ n → mid ≡ old ++ (33 + n % 94) ∷ []
    → new ≡ mid ++ code_within (most - 1) (n / 94 - 1) → new ≡ old ++ code_within most n
code_long old mid new most n some large first rest =
    let other : nat_lt n 94 ≡ false = grind (arith, large) in
    rest ∙ ap (λ bs. bs ++ code_within (most - 1) (n / 94 - 1)) first ∙ append_assoc old ((33 + n % 94) ∷ []) (code_within (most - 1) (n / 94 - 1))
    ∙ ap (λ b. old ++ (33 + n % 94) ∷ (if b then [] else code_within (most - 1) (n / 94 - 1))) (sym other)
    ∙ ap (λ bs. old ++ bs) (sym (code_more most n some))

-- a character alone
pub code_short : (old new : Bytes) (most n : ℕ) → 0 < most → n < 94 → new ≡ old ++ (33 + n % 94) ∷ [] → new ≡ old ++ code_within most n
code_short old new most n some small first =
    let last : nat_lt n 94 ≡ true = grind (arith, small) in
    first ∙ ap (λ b. old ++ (33 + n % 94) ∷ (if b then [] else code_within (most - 1) (n / 94 - 1))) (sym last)
    ∙ ap (λ bs. old ++ bs) (sym (code_more most n some))

pub code_ends : (old : Bytes) (most n : ℕ) → most ≡ 0 → old ≡ old ++ code_within most n
code_ends old most n none = sym (append-nil old) ∙ ap (λ bs. old ++ bs) (sym (code_none n)) ∙ ap (λ m. old ++ code_within m n) (sym none)
