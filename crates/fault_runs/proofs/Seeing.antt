-- What is put to the faults of a group in a cycle.
use Rattle.std.proofs.Common.{◌≡◌, ℕ, ◌+◌, ◌-◌, ◌*◌, ◌%◌, ◌^◌, ◌<◌, ◌≤◌, Bool, true, false, not, ◌||◌, ◌&&◌, List, length, get_or, set, Option, Some, None, is_some, inl, inr, bit_and, bit_or, refl, ap, ap₂, sym, ◌∙◌, subst, arith, get_or-set_other, get_or-set_same}
use Rattle.std.proofs.lemmas.Bool.{cases_eq, cases_lt}
use Rattle.std.proofs.lemmas.Nat.{and_le_l}
use Rattle.fm_base.specs.Planes.{bit}
use Rattle.fm_base.proofs.Bits.{bit_of_and, bit_of_not, bit_of_or}
use Rattle.fm_base.proofs.Tests.{clash, or_second}
use Rattle.place_set.proofs.Masks.{clear_bit}
use Rattle.fault_runs.specs.First.{AreKnown, SeesSome, fault_in, first_in}
use Rattle.first_cycles.specs.FirstCycles.{first_with}

-- what was seen stays so
pub first_known : (first : Option ℕ) (seen : Bool) (t : ℕ) → is_some first ≡ true → first_with first seen t ≡ first
first_known None seen t there = absurd (cc)
first_known (Some u) seen t there = refl

-- where nothing is seen the first cycle stays
pub first_stays : (first : Option ℕ) (t : ℕ) → first_with first false t ≡ first
first_stays None t = refl
first_stays (Some u) t = refl

module _ (group : List ℕ) (is_seen : ℕ → Bool) (t : ℕ) where
  pub sees_none : (cycles : List (Option ℕ)) → SeesSome group is_seen t cycles cycles
  sees_none cycles = record { same = λ i. refl; stays = λ i there. there; others = λ i none. refl }

  pub sees_more : (a b c : List (Option ℕ)) → SeesSome group is_seen t a b → SeesSome group is_seen t b c → SeesSome group is_seen t a c
  sees_more a b c one two = record {
    same = λ i. two.same i ∙ one.same i;
    stays = λ i there. two.stays i (one.stays i there);
    others = λ i none. two.others i none ∙ one.others i none;
  }

  -- what a fault has, once each lane in which it is seen was put
  pub has_first : (old new : List (Option ℕ)) → SeesSome group is_seen t old new → (i : ℕ) → (is_seen i ≡ true → is_some (first_in new i) ≡ true)
      → first_in new i ≡ first_with (first_in old i) (is_seen i) t
  has_first old new sees i done = by (is_seen i) refl
    where
      by : (b : Bool) → is_seen i ≡ b → first_in new i ≡ first_with (first_in old i) (is_seen i) t
      by true is = sym (first_known (first_in new i) (is_seen i) t (done is)) ∙ sees.same i
      by false is = sym (first_stays (first_in new i) t) ∙ ap (λ b. first_with (first_in new i) b t) (sym is) ∙ sees.same i

-- the lanes that are shown and not known
pub fresh_bit : (shown known k : ℕ) → known < 2 ^ 64 → k < 64 → bit (bit_and shown (18446744073709551615 - known)) k ≡ (bit shown k && not (bit known k))
fresh_bit shown known k small lt = bit_of_and shown (18446744073709551615 - known) k ∙ ap (λ b. bit shown k && b) (bit_of_not known k small lt)

-- without the lowest of its lanes a plane is a smaller number
pub cleared_lt : (left lane : ℕ) → lane < 64 → bit left lane ≡ true → bit_and left (18446744073709551615 - 1 * 2 ^ lane % 18446744073709551616) < left
cleared_lt left lane within is =
    elim (cases_lt (bit_and left (18446744073709551615 - 1 * 2 ^ lane % 18446744073709551616)) left) [
      | inl less ↦ less
      | inr ge ↦
          (let le : bit_and left (18446744073709551615 - 1 * 2 ^ lane % 18446744073709551616) ≤ left = and_le_l left (18446744073709551615 - 1 * 2 ^ lane % 18446744073709551616) in
          let same : bit_and left (18446744073709551615 - 1 * 2 ^ lane % 18446744073709551616) ≡ left = omega (arith, le, ge) in
          absurd (clash (bit left lane) is (ap (λ n. bit n lane) (sym same) ∙ clear_bit left lane within)))
    ]

-- WHAT IS KNOWN after a word of lanes was shown
module _ (group known : List ℕ) (word shown : ℕ) (old new : List (Option ℕ)) (within : word < 4) (count : length known ≡ 4) (small : get_or known word 0 < 2 ^ 64)
    (was : AreKnown group known old) (stays : (i : ℕ) → is_some (first_in old i) ≡ true → is_some (first_in new i) ≡ true)
    (seen : (k : ℕ) → k < 64 → word * 64 + k < length group → bit (bit_and shown (18446744073709551615 - get_or known word 0)) k ≡ true
    → is_some (first_in new (fault_in group (word * 64 + k))) ≡ true) where
  -- of this word the lanes that were known before, and those that are shown
  here : (k : ℕ) → k < 64 → word * 64 + k < length group → (b d : Bool) → bit (get_or known word 0) k ≡ b → bit shown k ≡ d → (b || d) ≡ true
      → is_some (first_in new (fault_in group (word * 64 + k))) ≡ true
  here k lt in_group true d own shows some = stays (fault_in group (word * 64 + k)) (was word k within lt in_group own)
  here k lt in_group false false own shows some = absurd (cc)
  here k lt in_group false true own shows some =
      seen k lt in_group (fresh_bit shown (get_or known word 0) k small lt ∙ ap₂ (λ b d. d && not b) own shows)

  pub shown_known : (k : ℕ) → k < 64 → word * 64 + k < length group → bit shown k ≡ true → is_some (first_in new (fault_in group (word * 64 + k))) ≡ true
  shown_known k lt in_group shows = here k lt in_group (bit (get_or known word 0) k) true refl shows (or_second (bit (get_or known word 0) k) true refl)

  pub known_more : AreKnown group (set known word (bit_or (get_or known word 0) (bit_and shown (18446744073709551615 - get_or known word 0)))) new
  known_more other k lt_word lt in_group marked =
      elim (cases_eq other word) [
        | inl same ↦
            (let in_it : word * 64 + k < length group = subst (λ j. j * 64 + k < length group) same in_group in
            let is : bit (bit_or (get_or known word 0) (bit_and shown (18446744073709551615 - get_or known word 0))) k ≡ true =
            ap (λ n. bit n k) (sym (get_or-set_same known word (bit_or (get_or known word 0) (bit_and shown (18446744073709551615 - get_or known word 0))) 0 (omega (arith, within, count))))
            ∙ ap (λ j. bit (get_or (set known word (bit_or (get_or known word 0) (bit_and shown (18446744073709551615 - get_or known word 0)))) j 0) k) (sym same) ∙ marked in
            ap (λ j. is_some (first_in new (fault_in group (j * 64 + k)))) same
            ∙ here k lt in_it (bit (get_or known word 0) k) (bit shown k) refl refl
            (or_fresh (bit (get_or known word 0) k) (bit shown k)
            (ap (λ b. bit (get_or known word 0) k || b) (sym (fresh_bit shown (get_or known word 0) k small lt))
            ∙ sym (bit_of_or (get_or known word 0) (bit_and shown (18446744073709551615 - get_or known word 0)) k) ∙ is)))
        | inr apart ↦
            stays (fault_in group (other * 64 + k))
            (was other k lt_word lt in_group
            (ap (λ n. bit n k) (sym (get_or-set_other known word other (bit_or (get_or known word 0) (bit_and shown (18446744073709551615 - get_or known word 0))) 0 apart)) ∙ marked))
      ]
    where
      or_fresh : (b d : Bool) → (b || (d && not b)) ≡ true → (b || d) ≡ true
      or_fresh true d e = refl
      or_fresh false true e = refl
      or_fresh false false e = e
