-- Once an interval has gone by without an alarm, nothing that comes later decides danger.
use Rattle.std.proofs.Common.{◌≡◌, inl, inr, ℕ, zero, suc, ◌+◌, ◌-◌, ◌≤◌, Bool, true, ap, sym, ◌∙◌, arith}
use Rattle.std.proofs.lemmas.Bool.{cases_lt, or_left}
use Rattle.alarm_points.specs.Interval.{goes_unalarmed}
use Rattle.alarm_points.specs.Watch.{is_settled}
use Rattle.alarm_points.proofs.Settled.{settled_due, settled_early, unalarmed_is}

-- one cycle more
pub settled_on : (ftti n : ℕ) (d r : ℕ → Bool) → is_settled ftti n d r ≡ true → is_settled ftti (n + 1) d r ≡ true
settled_on ftti n d r is =
    let next : n + 1 ≡ suc n = omega arith in
    ap (λ m. is_settled ftti m d r) next
    ∙ elim (cases_lt n ftti) as (λ _. is_settled ftti (suc n) d r ≡ true) [
      | inl early ↦ settled_early ftti n d r early ∙ is
      | inr late ↦ settled_due ftti n d r late ∙ or_left _ _ is
    ]

settled_later : (ftti n j : ℕ) (d r : ℕ → Bool) → is_settled ftti n d r ≡ true → is_settled ftti (n + j) d r ≡ true
settled_later ftti n zero d r is = let here : n + 0 ≡ n = omega arith in ap (λ m. is_settled ftti m d r) here ∙ is
settled_later ftti n (suc j) d r is =
    let next : n + suc j ≡ n + j + 1 = omega arith in
    ap (λ m. is_settled ftti m d r) next ∙ settled_on ftti (n + j) d r (settled_later ftti n j d r is)

-- DANGER is decided when an interval has gone by
pub goes_unalarmed-settled : (ftti n cycles : ℕ) (d r : ℕ → Bool) → n ≤ cycles → is_settled ftti n d r ≡ true → goes_unalarmed ftti cycles d r ≡ true
goes_unalarmed-settled ftti n cycles d r le is =
    let last : n + (cycles - n) ≡ cycles = omega (arith, le) in
    unalarmed_is ftti cycles d r ∙ or_left _ _ (sym (ap (λ m. is_settled ftti m d r) last) ∙ settled_later ftti n (cycles - n) d r is)
