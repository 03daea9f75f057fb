-- After the last difference nothing is noticed that wasn't, and danger is what was met by then.
use Rattle.std.proofs.Common.{◌≡◌, ℕ, ◌<◌, ◌≤◌, Bool, true, false, inl, inr, sym, ◌∙◌, arith}
use Rattle.std.proofs.lemmas.Bool.{cases_lt, true≢false}
use Rattle.fm_base.specs.Lists.{some_below}
use Rattle.fm_base.proofs.Below.{some_below-at, some_below-true}
use Rattle.alarm_points.specs.Interval.{GoesUnalarmed, goes_unalarmed}
use Rattle.alarm_points.proofs.Settled.{same_test}
use Rattle.alarm_points.proofs.Unalarmed.{goes_unalarmed-of, goes_unalarmed-says}
use Rattle.alarm_points.specs.Dropped.{IsStillFrom}

-- a cycle that passes is among the first n, where none passes later
early : (n cycles : ℕ) (test : ℕ → Bool) → ((t : ℕ) → n ≤ t → t < cycles → test t ≡ false) → (t : ℕ) → t < cycles → test t ≡ true → t < n
early n cycles test none t lt is =
    elim (cases_lt t n) [ inl less ↦ less | inr most ↦ absurd (true≢false (sym is ∙ none t most lt)) ]

-- WHAT WAS SEEN of some cycle, as of an alarm, was seen by then
pub some_below-still : (n cycles : ℕ) (test : ℕ → Bool) → n ≤ cycles → ((t : ℕ) → n ≤ t → t < cycles → test t ≡ false)
    → some_below n test ≡ some_below cycles test
some_below-still n cycles test le none =
    same_test (some_below n test) (some_below cycles test)
    (λ is.
    let found : (t : ℕ) × (t < n) × (test t ≡ true) = some_below-true n test is in
    some_below-at cycles test found.0 (omega (arith, le, found.1)) found.2)
    (λ is.
    let found : (t : ℕ) × (t < cycles) × (test t ≡ true) = some_below-true cycles test is in
    some_below-at n test found.0 (early n cycles test none found.0 found.1 found.2) found.2)

longer : (ftti n cycles : ℕ) (d r : ℕ → Bool) → IsStillFrom n cycles d r → GoesUnalarmed ftti n d r → GoesUnalarmed ftti cycles d r
longer ftti n cycles d r still w = record {
  t = w.t;
  within = omega (arith, w.within, still.within);
  differs_at = w.differs_at;
  quiet = λ u lt le. elim (cases_lt u n) [ inl less ↦ w.quiet u less le | inr most ↦ still.raise u most lt ];
}

shorter : (ftti n cycles : ℕ) (d r : ℕ → Bool) → IsStillFrom n cycles d r → GoesUnalarmed ftti cycles d r → GoesUnalarmed ftti n d r
shorter ftti n cycles d r still w = record {
  t = w.t;
  within = early n cycles d still.differ w.t w.within w.differs_at;
  differs_at = w.differs_at;
  quiet = λ u lt le. w.quiet u (omega (arith, lt, still.within)) le;
}

-- and so DANGER was met by then: of an interval that was still running no alarm would end it
pub goes_unalarmed-still : (ftti n cycles : ℕ) (d r : ℕ → Bool) → IsStillFrom n cycles d r → goes_unalarmed ftti n d r ≡ goes_unalarmed ftti cycles d r
goes_unalarmed-still ftti n cycles d r still =
    same_test (goes_unalarmed ftti n d r) (goes_unalarmed ftti cycles d r)
    (λ is. goes_unalarmed-of ftti cycles d r (longer ftti n cycles d r still (goes_unalarmed-says ftti n d r is)))
    (λ is. goes_unalarmed-of ftti n d r (shorter ftti n cycles d r still (goes_unalarmed-says ftti cycles d r is)))
