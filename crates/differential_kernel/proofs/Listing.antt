-- Lists of the numbers below a bound of which something is true, ascending.
use Rattle.std.proofs.Common.{◌≡◌, ◌≢◌, inl, inr, ℕ, ◌+◌, ◌<◌, ◌≤◌, cond, Bool, true, false, List, length, get_or, set, refl, ap, sym, subst, ◌∙◌, arith}
use Rattle.std.proofs.lemmas.Bool.{cases_eq, cases_lt, false_from_ne_true, le-ltb, lt-ltb, true≢false}
use Rattle.std.proofs.lemmas.List.{get_or-set_same, get_or-set_other}
use Rattle.differential_kernel.specs.Places.{AreThose, next_in}

pub next_here : (list : List ℕ) (count bound i : ℕ) → i < count → next_in list count bound i ≡ get_or list i 0
next_here list count bound i lt = ap (λ b. cond b (get_or list i 0) bound) (lt-ltb i count lt)

pub next_end : (list : List ℕ) (count bound i : ℕ) → count ≤ i → next_in list count bound i ≡ bound
next_end list count bound i le = ap (λ b. cond b (get_or list i 0) bound) (le-ltb i count le)

module _ (is : ℕ → Bool) where
  -- below 0 there is none
  pub those_none : (list : List ℕ) → AreThose is 0 list 0
  those_none list = record {
    few = omega arith;
    below = λ i lt. absurd (omega arith);
    each = λ i lt. absurd (omega arith);
    ascending = λ i j less lt. absurd (omega arith);
    whole = λ p lt there. absurd (omega arith);
  }

  -- some more, of which it isn't true
  pub those_until : (list : List ℕ) (count q to : ℕ) → q ≤ to → ((p : ℕ) → q ≤ p → p < to → is p ≡ false) → AreThose is q list count → AreThose is to list count
  those_until list count q to le none those = record {
    few = omega (arith, those.few);
    below = λ i lt. omega (arith, those.below i lt);
    each = those.each;
    ascending = those.ascending;
    whole = λ p lt there. elim (cases_lt p q) as (λ _. (i : ℕ) × (i < count) × (get_or list i 0 ≡ p)) [
      | inl less ↦ those.whole p less there
      | inr most ↦ absurd (true≢false (sym there ∙ none p most lt))
    ];
  }

  -- one more
  pub those_past : (list : List ℕ) (count q : ℕ) → is q ≡ false → AreThose is q list count → AreThose is (q + 1) list count
  those_past list count q none those =
      those_until list count q (q + 1) (omega arith)
      (λ p most less.
      let same : p ≡ q = omega arith in
      ap is same ∙ none)
      those

  -- one more, of which it is
  pub those_more : (list : List ℕ) (count q : ℕ) → is q ≡ true → count < length list → AreThose is q list count → AreThose is (q + 1) (set list count q) (count + 1)
  those_more list count q there within those = record {
    few = omega (arith, those.few);
    below = λ i lt. elim (cases_eq i count) as (λ _. get_or (set list count q) i 0 < q + 1) [
      | inl same ↦ subst (λ v. v < q + 1) (sym (last i same)) (omega arith)
      | inr other ↦ subst (λ v. v < q + 1) (sym (before i other)) (omega (arith, those.below i (omega (arith, lt, other))))
    ];
    each = λ i lt. elim (cases_eq i count) as (λ _. is (get_or (set list count q) i 0) ≡ true) [
      | inl same ↦ ap is (last i same) ∙ there
      | inr other ↦ ap is (before i other) ∙ those.each i (omega (arith, lt, other))
    ];
    ascending = λ i j less lt.
        let low : i < count = omega arith in
        let first : get_or (set list count q) i 0 ≡ get_or list i 0 = before i (omega arith) in
        subst (λ v. v < get_or (set list count q) j 0) (sym first)
        (elim (cases_eq j count) as (λ _. get_or list i 0 < get_or (set list count q) j 0) [
          | inl same ↦ subst (λ v. get_or list i 0 < v) (sym (last j same)) (those.below i low)
          | inr other ↦ subst (λ v. get_or list i 0 < v) (sym (before j other)) (those.ascending i j less (omega (arith, lt, other)))
        ]);
    whole = λ p lt is_p. elim (cases_eq p q) as (λ _. (i : ℕ) × (i < count + 1) × (get_or (set list count q) i 0 ≡ p)) [
      | inl same ↦ (count, omega arith, last count refl ∙ sym same)
      | inr other ↦
          (let at = those.whole p (omega (arith, lt, other)) is_p in
          (at.0, omega (arith, at.1), before at.0 (omega (arith, at.1)) ∙ at.2))
    ];
  }
    where
      last : (i : ℕ) → i ≡ count → get_or (set list count q) i 0 ≡ q
      last i same = ap (λ j. get_or (set list count q) j 0) same ∙ get_or-set_same list count q 0 within

      before : (i : ℕ) → i ≢ count → get_or (set list count q) i 0 ≡ get_or list i 0
      before i other = get_or-set_other list count i q 0 other

  pub next_within : (list : List ℕ) (count bound i : ℕ) → AreThose is bound list count → next_in list count bound i ≤ bound
  next_within list count bound i those =
      elim (cases_lt i count) [
        | inl lt ↦ omega (arith, next_here list count bound i lt, those.below i lt)
        | inr le ↦ omega (arith, next_end list count bound i le)
      ]

  -- where all that are true stand before a place of the list, or from it on, there is none between
  none_between : (list : List ℕ) (count bound i p : ℕ) → AreThose is bound list count → p < next_in list count bound i
      → ((j : ℕ) → j < i → j < count → get_or list j 0 < p) → is p ≡ false
  none_between list count bound i p those less before =
      false_from_ne_true (is p)
      (λ there.
      let within : p < bound = omega (arith, less, next_within list count bound i those) in
      let at = those.whole p within there in
      elim (cases_lt at.0 i) [
        | inl low ↦ omega (arith, before at.0 low at.1, at.2)
        | inr high ↦
            (let here : next_in list count bound i ≡ get_or list i 0 = next_here list count bound i (omega (arith, high, at.1)) in
            elim (cases_eq i at.0) [
              | inl same ↦ omega (arith, less, here, ap (λ j. get_or list j 0) same, at.2)
              | inr other ↦ omega (arith, less, here, those.ascending i at.0 (omega (arith, high, other)) at.1, at.2)
            ])
      ])

  -- before the first there is none
  pub none_first : (list : List ℕ) (count bound p : ℕ) → AreThose is bound list count → p < next_in list count bound 0 → is p ≡ false
  none_first list count bound p those less = none_between list count bound 0 p those less (λ j low lt. absurd (omega arith))

  -- from one up to the next there is none
  pub none_next : (list : List ℕ) (count bound i p : ℕ) → AreThose is bound list count → i < count → get_or list i 0 < p → p < next_in list count bound (i + 1) → is p ≡ false
  none_next list count bound i p those lt above less =
      none_between list count bound (i + 1) p those less
      (λ j low within.
      elim (cases_eq j i) [
        | inl same ↦ omega (arith, above, ap (λ m. get_or list m 0) same)
        | inr other ↦ omega (arith, above, those.ascending j i (omega (arith, low, other)) lt)
      ])

  -- the next one stands behind
  pub next_above : (list : List ℕ) (count bound i : ℕ) → AreThose is bound list count → i < count → get_or list i 0 + 1 ≤ next_in list count bound (i + 1)
  next_above list count bound i those lt =
      elim (cases_lt (i + 1) count) [
        | inl more ↦ omega (arith, next_here list count bound (i + 1) more, those.ascending i (i + 1) (omega arith) more)
        | inr last ↦ omega (arith, next_end list count bound (i + 1) last, those.below i lt)
      ]
