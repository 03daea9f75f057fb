-- A lane may leave a run once what is seen decides.
use Rattle.std.proofs.Common.{◌≡◌, ℕ, ◌+◌, ◌<◌, ◌≤◌, Bool, true, false, inl, inr, Option, Some, None, refl, ap₂, sym, arith}
use Rattle.std.specs.Prelude.{nat_lt}
use Rattle.std.proofs.lemmas.Bool.{cases_lt, le-ltb, lt-ltb, ltb-true, true≢false}
use Rattle.fm_base.proofs.Tests.{clash}
use Rattle.first_cycles.specs.FirstCycles.{MayLeaveDecided, comes_late, first_below, is_decided_by}
use Rattle.first_cycles.proofs.Firsts.{IsFirst, IsFirstOf, first_is, one_alone}

module _ (n cycles : ℕ) (le : n ≤ cycles) (test : ℕ → Bool) where
  -- the first of fewer cycles is the first of all
  stays : (t : ℕ) → IsFirst n test t → IsFirst cycles test t
  stays t first = record { within = omega (arith, first.within, le); passes = first.passes; before = first.before }

  -- where none of fewer passes, the first of all comes later
  comes_later : (t : ℕ) → ((u : ℕ) → u < n → test u ≡ false) → IsFirst cycles test t → n ≤ t
  comes_later t none first = elim (cases_lt t n) [ inl less ↦ absurd (clash (test t) first.passes (none t less)) | inr most ↦ most ]

module _ (ftti n cycles : ℕ) (le : n ≤ cycles) (d r : ℕ → Bool) where
  -- by the first ones among fewer cycles and among all
  left : (a b a' b' : Option ℕ) → IsFirstOf n d a → IsFirstOf n r b → IsFirstOf cycles d a' → IsFirstOf cycles r b'
      → is_decided_by ftti n a b ≡ true → comes_late ftti a b ≡ comes_late ftti a' b'
  left None None a' b' p q p' q' is = absurd (true≢false (sym is))
  left None (Some u) None b' p q p' q' is = refl
  left None (Some u) (Some t) None p q p' q' is = absurd (clash (r u) q.passes (q' u (omega (arith, q.within, le))))
  left None (Some u) (Some t) (Some v) p q p' q' is =
      let same : v ≡ u = one_alone v u q' (stays n cycles le r u q) in
      let later = comes_later n cycles le d t p p' in
      let near = q.within in
      sym (le-ltb (t + ftti) v (omega (arith, same, later, near)))
  left (Some t) b None b' p q p' q' is = absurd (clash (d t) p.passes (p' t (omega (arith, p.within, le))))
  left (Some t) None (Some s) None p q p' q' is = refl
  left (Some t) None (Some s) (Some v) p q p' q' is =
      let same : s ≡ t = one_alone s t p' (stays n cycles le d t p) in
      let over : t + ftti < n = ltb-true (t + ftti) n is in
      let later = comes_later n cycles le r v q q' in
      sym (lt-ltb (s + ftti) v (omega (arith, same, over, later)))
  left (Some t) (Some u) (Some s) None p q p' q' is = absurd (clash (r u) q.passes (q' u (omega (arith, q.within, le))))
  left (Some t) (Some u) (Some s) (Some v) p q p' q' is =
      let first : s ≡ t = one_alone s t p' (stays n cycles le d t p) in
      let second : v ≡ u = one_alone v u q' (stays n cycles le r u q) in
      ap₂ (λ x y. nat_lt (x + ftti) y) (sym first) (sym second)

-- A LANE MAY LEAVE
pub leave : MayLeaveDecided
leave ftti n cycles differs raised le is =
    left ftti n cycles le differs raised (first_below n differs) (first_below n raised) (first_below cycles differs) (first_below cycles raised)
    (first_is n differs) (first_is n raised) (first_is cycles differs) (first_is cycles raised) is
