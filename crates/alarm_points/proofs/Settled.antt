-- What goes unalarmed is settled, or differs and is quiet to the end.
use Rattle.std.proofs.Common.{◌≡◌, ℕ, zero, suc, ◌+◌, ◌-◌, ◌<◌, ◌≤◌, Bool, true, false, not, ◌&&◌, ◌||◌, inl, inr, refl, ap, ap₂, sym, ◌∙◌, arith}
use Rattle.std.proofs.lemmas.Bool.{cases_lt, or_left}
use Rattle.fm_base.specs.Lists.{some_below}
use Rattle.fm_base.proofs.Below.{some_below-true, some_below-false, some_below-at}
use Rattle.fm_base.proofs.Tests.{and_both, both_true, or_cases, or_second, not_true, not_false, clash, false_of}
use Rattle.alarm_points.specs.Interval.{goes_unalarmed, GoesUnalarmed}
use Rattle.alarm_points.specs.Watch.{is_settled}
use Rattle.alarm_points.proofs.Unalarmed.{goes_unalarmed-says, goes_unalarmed-of}

-- two tests of which each passes where the other does
pub same_test : (a b : Bool) → (a ≡ true → b ≡ true) → (b ≡ true → a ≡ true) → a ≡ b
same_test true true f g = refl
same_test false false f g = refl
same_test true false f g = sym (f refl)
same_test false true f g = g refl

pub some_below-zero : (test : ℕ → Bool) → some_below 0 test ≡ false
unfolding some_below
some_below-zero test = refl

pub some_below-suc : (n : ℕ) (test : ℕ → Bool) → some_below (suc n) test ≡ (some_below n test || test n)
unfolding some_below
some_below-suc n test = refl

pub some_below-same : (n : ℕ) (f g : ℕ → Bool) → ((t : ℕ) → t < n → f t ≡ g t) → some_below n f ≡ some_below n g
some_below-same zero f g each = some_below-zero f ∙ sym (some_below-zero g)
some_below-same (suc n) f g each =
    some_below-suc n f ∙ ap₂ (λ a b. a || b) (some_below-same n f g (λ t lt. each t (omega arith))) (each n (omega arith)) ∙ sym (some_below-suc n g)

pub is_settled-same : (ftti n : ℕ) (d e r s : ℕ → Bool) → ((t : ℕ) → t < n → d t ≡ e t) → ((t : ℕ) → t < n → r t ≡ s t)
    → is_settled ftti n d r ≡ is_settled ftti n e s
unfolding is_settled
is_settled-same ftti n d e r s differs raised =
    some_below-same (n - ftti) _ _ (λ t lt.
    ap₂ (λ a b. a && not b) (differs t (omega arith)) (some_below-same (suc (t + ftti)) r s (λ u early. raised u (omega arith))))

pub settled_none : (ftti : ℕ) (d r : ℕ → Bool) → is_settled ftti 0 d r ≡ false
unfolding is_settled
settled_none ftti d r =
    let e : 0 - ftti ≡ 0 = omega arith in
    ap (λ m. some_below m (λ t. d t && not (some_below (suc (t + ftti)) r))) e ∙ some_below-zero _

-- no interval has ended yet
pub settled_early : (ftti n : ℕ) (d r : ℕ → Bool) → n < ftti → is_settled ftti (suc n) d r ≡ is_settled ftti n d r
unfolding is_settled
settled_early ftti n d r early =
    let e : suc n - ftti ≡ n - ftti = omega arith in
    ap (λ m. some_below m (λ t. d t && not (some_below (suc (t + ftti)) r))) e

-- one interval ends
pub settled_due : (ftti n : ℕ) (d r : ℕ → Bool) → ftti ≤ n
    → is_settled ftti (suc n) d r ≡ (is_settled ftti n d r || (d (n - ftti) && not (some_below (suc n) r)))
unfolding is_settled
settled_due ftti n d r late =
    let e : suc n - ftti ≡ suc (n - ftti) = omega arith in
    let last : n - ftti + ftti ≡ n = omega arith in
    ap (λ m. some_below m (λ t. d t && not (some_below (suc (t + ftti)) r))) e
    ∙ some_below-suc (n - ftti) (λ t. d t && not (some_below (suc (t + ftti)) r))
    ∙ ap (λ m. some_below (n - ftti) (λ t. d t && not (some_below (suc (t + ftti)) r)) || (d (n - ftti) && not (some_below (suc m) r))) last

-- some number would pass, and none does
quiet_below : (n : ℕ) (r : ℕ → Bool) → ((u : ℕ) → u < n → r u ≡ false) → not (some_below n r) ≡ true
quiet_below n r quiet = not_false _ (false_of _ (λ loud.
    let found : (u : ℕ) × (u < n) × (r u ≡ true) = some_below-true n r loud in
    clash (r found.0) found.2 (quiet found.0 found.1)))

pub unalarmed_is : (ftti n : ℕ) (d r : ℕ → Bool) → goes_unalarmed ftti n d r ≡ (is_settled ftti n d r || (some_below n d && not (some_below n r)))
unfolding is_settled
unalarmed_is ftti n d r = same_test _ _ forth back
  where
    settled : ℕ → Bool
    settled t = d t && not (some_below (suc (t + ftti)) r)

    forth : goes_unalarmed ftti n d r ≡ true → (is_settled ftti n d r || (some_below n d && not (some_below n r))) ≡ true
    forth h =
        let w : GoesUnalarmed ftti n d r = goes_unalarmed-says ftti n d r h in
        elim (cases_lt (w.t + ftti) n) [
          | inl lt ↦ or_left _ _ (some_below-at (n - ftti) (λ t. d t && not (some_below (suc (t + ftti)) r)) w.t (omega arith)
              (both_true _ _ w.differs_at (quiet_below (suc (w.t + ftti)) r (λ u early. w.quiet u (omega arith) (omega arith)))))
          | inr ge ↦ or_second _ _ (both_true _ _ (some_below-at n d w.t w.within w.differs_at)
              (quiet_below n r (λ u lt. w.quiet u lt (omega arith))))
        ]

    back : (is_settled ftti n d r || (some_below n d && not (some_below n r))) ≡ true → goes_unalarmed ftti n d r ≡ true
    back h = elim (or_cases _ _ h) [
      | inl e ↦
          (let found : (t : ℕ) × (t < n - ftti) × ((d t && not (some_below (suc (t + ftti)) r)) ≡ true) = some_below-true (n - ftti) (λ t. d t && not (some_below (suc (t + ftti)) r)) e in
          let parts : (d found.0 ≡ true) × (not (some_below (suc (found.0 + ftti)) r) ≡ true) = and_both _ _ found.2 in
          let within : found.0 < n - ftti = found.1 in
          goes_unalarmed-of ftti n d r (record {
            t = found.0;
            within = omega (arith, within);
            differs_at = parts.0;
            quiet = λ u lt early. some_below-false (suc (found.0 + ftti)) r (not_true _ parts.1) u (omega arith);
          }))
      | inr e ↦
          (let parts : (some_below n d ≡ true) × (not (some_below n r) ≡ true) = and_both _ _ e in
          let found : (t : ℕ) × (t < n) × (d t ≡ true) = some_below-true n d parts.0 in
          goes_unalarmed-of ftti n d r (record {
            t = found.0;
            within = found.1;
            differs_at = found.2;
            quiet = λ u lt early. some_below-false n r (not_true _ parts.1) u lt;
          }))
    ]

pub goes_unalarmed-same : (ftti n : ℕ) (d e r s : ℕ → Bool) → ((t : ℕ) → t < n → d t ≡ e t) → ((t : ℕ) → t < n → r t ≡ s t)
    → goes_unalarmed ftti n d r ≡ goes_unalarmed ftti n e s
goes_unalarmed-same ftti n d e r s differs raised =
    unalarmed_is ftti n d r
    ∙ ap₂ (λ a b. a || b) (is_settled-same ftti n d e r s differs raised)
    (ap₂ (λ a b. a && not b) (some_below-same n d e differs) (some_below-same n r s raised))
    ∙ sym (unalarmed_is ftti n e s)
