-- First cycles decide whether a difference goes without an alarm.
use Rattle.std.proofs.Common.{◌≡◌, ℕ, ◌+◌, ◌<◌, ◌≤◌, Bool, inl, inr, Option, Some, None, arith}
use Rattle.std.proofs.lemmas.Bool.{cases_lt, lt-ltb, ltb-true}
use Rattle.alarm_points.specs.Interval.{GoesUnalarmed, goes_unalarmed}
use Rattle.alarm_points.proofs.Settled.{same_test}
use Rattle.alarm_points.proofs.Unalarmed.{goes_unalarmed-of, goes_unalarmed-says}
use Rattle.fm_base.proofs.Tests.{clash, false_of}
use Rattle.first_cycles.specs.FirstCycles.{FirstCyclesDecide, comes_late, first_below}
use Rattle.first_cycles.proofs.Firsts.{IsFirst, IsFirstOf, first_is}

module _ (ftti n : ℕ) (d r : ℕ → Bool) where
  -- a difference that goes without an alarm is no earlier than the first
  not_before : (t : ℕ) → IsFirst n d t → (w : GoesUnalarmed ftti n d r) → t ≤ w.t
  not_before t first w = elim (cases_lt w.t t) [ inl less ↦ absurd (clash (d w.t) w.differs_at (first.before w.t less)) | inr most ↦ most ]

  -- and its interval ends before the first alarm
  ended : (u : ℕ) → IsFirst n r u → (w : GoesUnalarmed ftti n d r) → w.t + ftti < u
  ended u first w = elim (cases_lt (w.t + ftti) u) [ inl less ↦ less | inr most ↦ absurd (clash (r u) first.passes (w.quiet u first.within most)) ]

  decided : (a b : Option ℕ) → IsFirstOf n d a → IsFirstOf n r b → goes_unalarmed ftti n d r ≡ comes_late ftti a b
  decided None b none _ = false_of _ (λ is.
      let w : GoesUnalarmed ftti n d r = goes_unalarmed-says ftti n d r is in
      clash (d w.t) w.differs_at (none w.t w.within))
  decided (Some t) None first none = goes_unalarmed-of ftti n d r (record {
    t = t;
    within = first.within;
    differs_at = first.passes;
    quiet = λ u lt le. none u lt;
  })
  decided (Some t) (Some u) first alarm = same_test (goes_unalarmed ftti n d r) (comes_late ftti (Some t) (Some u))
      (λ is.
      let w : GoesUnalarmed ftti n d r = goes_unalarmed-says ftti n d r is in
      let lower = not_before t first w in
      let upper = ended u alarm w in
      lt-ltb (t + ftti) u (omega (arith, lower, upper)))
      (λ late.
      let less : t + ftti < u = ltb-true (t + ftti) u late in
      goes_unalarmed-of ftti n d r (record {
        t = t;
        within = first.within;
        differs_at = first.passes;
        quiet = λ v lt le. alarm.before v (omega (arith, le, less));
      }))

-- FIRST CYCLES DECIDE
pub decide : FirstCyclesDecide
decide ftti cycles differs raised =
    decided ftti cycles differs raised (first_below cycles differs) (first_below cycles raised) (first_is cycles differs) (first_is cycles raised)
