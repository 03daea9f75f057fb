-- After a raised alarm nothing that comes later decides danger, nor notice by raised alarms.
use Rattle.std.proofs.Common.{◌≡◌, ℕ, ◌+◌, ◌<◌, Bool, sym, ◌∙◌, inl, inr, arith}
use Rattle.std.proofs.lemmas.Bool.{cases_lt, true≢false}
use Rattle.fm_base.specs.Lists.{some_below}
use Rattle.fm_base.proofs.Below.{some_below-at}
use Rattle.alarm_points.specs.Interval.{GoesUnalarmed, goes_unalarmed}
use Rattle.alarm_points.proofs.Settled.{same_test}
use Rattle.alarm_points.proofs.Unalarmed.{goes_unalarmed-of, goes_unalarmed-says}
use Rattle.alarm_points.specs.Dropped.{AreRaisedAt}

-- the run as it is seen from the other side
turned : (u cycles : ℕ) (d r e s : ℕ → Bool) → AreRaisedAt u cycles d r e s → AreRaisedAt u cycles e s d r
turned u cycles d r e s both = record {
  within = both.within;
  alarm = both.alarm';
  alarm' = both.alarm;
  differ = λ t lt. sym (both.differ t lt);
  raise = λ t lt. sym (both.raise t lt);
}

-- a difference that no alarm meets ends its interval before the alarm
unmet : (ftti u cycles : ℕ) (d r e s : ℕ → Bool) → AreRaisedAt u cycles d r e s → GoesUnalarmed ftti cycles d r → GoesUnalarmed ftti cycles e s
unmet ftti u cycles d r e s both w = record {
  t = w.t;
  within = w.within;
  differs_at = sym (both.differ w.t (omega (arith, early))) ∙ w.differs_at;
  quiet = λ v lt le. sym (both.raise v (omega (arith, early, le))) ∙ w.quiet v lt le;
}
  where
    early : w.t + ftti < u
    early = elim (cases_lt (w.t + ftti) u) [ inl less ↦ less | inr most ↦ absurd (true≢false (sym both.alarm ∙ w.quiet u both.within most)) ]

-- DANGER is decided when an alarm is raised
pub goes_unalarmed-dropped : (ftti u cycles : ℕ) (d r e s : ℕ → Bool) → AreRaisedAt u cycles d r e s
    → goes_unalarmed ftti cycles d r ≡ goes_unalarmed ftti cycles e s
goes_unalarmed-dropped ftti u cycles d r e s both =
    same_test (goes_unalarmed ftti cycles d r) (goes_unalarmed ftti cycles e s)
    (λ is. goes_unalarmed-of ftti cycles e s (unmet ftti u cycles d r e s both (goes_unalarmed-says ftti cycles d r is)))
    (λ is. goes_unalarmed-of ftti cycles d r (unmet ftti u cycles e s d r (turned u cycles d r e s both) (goes_unalarmed-says ftti cycles e s is)))

-- and so is NOTICE by a raised alarm
pub some_raised-dropped : (u cycles : ℕ) (d r e s : ℕ → Bool) → AreRaisedAt u cycles d r e s → some_below cycles r ≡ some_below cycles s
some_raised-dropped u cycles d r e s both =
    some_below-at cycles r u both.within both.alarm ∙ sym (some_below-at cycles s u both.within both.alarm')
