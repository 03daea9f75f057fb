-- Counts of rows, and the first place of each.
use Rattle.std.proofs.Common.{◌≡◌, ◌≢◌, ◌∙◌, ap, ap₂, sym, subst, refl, ℕ, zero, suc, ◌+◌, ◌<◌, ◌≤◌, ◌⊎◌, inl, inr, Bool, true, false, List, [], ◌∷◌, length, take, set, get_or, get_or-set_same, get_or-set_other, length-set, add-one, arith}
use Rattle.std.specs.Prelude.{count_by, find, Option, Some, None, not, unwrap_or, is_none, is_some, IfSome}
use Rattle.std.specs.Option.{option_or}
use Rattle.std.proofs.lemmas.List.{length-take}
use Rattle.std.proofs.lemmas.List.Folds.{find-append}
use Rattle.std.proofs.lemmas.List.Sums.{count_by_more_no, count_by_more_yes, count_by-le-length}
use Rattle.fm_base.specs.Lists.{below}
use Rattle.fm_base.proofs.Below.{below_push}
use Rattle.campaign_tables.specs.PartSteps.{is_at_row}
use Rattle.campaign_tables.specs.Counted.{row_in_list, AreRowCounts, AreFirsts, AreRowsBelow}
use Rattle.fm_base.proofs.Options.{or_none}

-- ---- a row is itself, and no other

same_row : (k : ℕ) → is_at_row k (Some k) ≡ true
same_row k = grind arith

other_row : (j k : ℕ) → j ≢ k → is_at_row j (Some k) ≡ false
other_row j k ne = grind (arith, ne)

-- ---- counts

pub no_counts : (n : ℕ) (rows : List (Option ℕ)) (counts : List ℕ) → length counts ≡ n → ((k : ℕ) → k < n → get_or counts k 0 ≡ 0)
    → AreRowCounts n (take 0 rows) counts
no_counts n rows counts size none = record { size = size; each = none }

pub one_counted : (n : ℕ) (rows : List (Option ℕ)) (i k : ℕ) (counts : List ℕ) → AreRowCounts n (take i rows) counts → i < length rows
    → row_in_list rows i ≡ Some k → k < n → AreRowCounts n (take (i + 1) rows) (set counts k (get_or counts k 0 + 1))
one_counted n rows i k counts are lt here within = record {
  size = length-set counts k (get_or counts k 0 + 1) ∙ are.size;
  each = λ j less. (let split : (j ≡ k) ⊎ (j ≢ k) = grind arith in
      elim split as (λ _. get_or (set counts k (get_or counts k 0 + 1)) j 0 ≡ count_by (is_at_row j) (take (i + 1) rows)) [
        | inl e ↦ subst (λ v. get_or (set counts k (get_or counts k 0 + 1)) v 0 ≡ count_by (is_at_row v) (take (i + 1) rows)) (sym e)
            (get_or-set_same counts k (get_or counts k 0 + 1) 0 (omega (arith, are.size, within))
            ∙ ap (λ m. m + 1) (are.each k within)
            ∙ sym (count_by_more_yes (is_at_row k) rows i None lt (ap (is_at_row k) here ∙ same_row k)))
        | inr ne ↦ get_or-set_other counts k j (get_or counts k 0 + 1) 0 ne ∙ are.each j less
            ∙ sym (count_by_more_no (is_at_row j) rows i None lt (ap (is_at_row j) here ∙ other_row j k ne))
      ]);
}

pub none_counted : (n : ℕ) (rows : List (Option ℕ)) (i : ℕ) (counts : List ℕ) → AreRowCounts n (take i rows) counts → i < length rows
    → row_in_list rows i ≡ None → AreRowCounts n (take (i + 1) rows) counts
none_counted n rows i counts are lt here = record {
  size = are.size;
  each = λ j less. are.each j less ∙ sym (count_by_more_no (is_at_row j) rows i None lt (ap (is_at_row j) here));
}

pub counted_few : (n : ℕ) (rows : List (Option ℕ)) (i k : ℕ) (counts : List ℕ) → AreRowCounts n (take i rows) counts → k < n → get_or counts k 0 ≤ i
counted_few n rows i k counts are within =
    omega (arith, are.each k within, count_by-le-length (is_at_row k) (take i rows), length-take i rows)

-- ---- the first number that passes

pub find_none : (test : ℕ → Bool) → None ≡ find test (below 0)
unfolding below
find_none test = refl

-- one number more
find_next : (test : ℕ → Bool) (n : ℕ) → find test (below (n + 1)) ≡ option_or (find test (below n)) (find test (n ∷ []))
find_next test n = ap (λ k. find test (below k)) (add-one n) ∙ ap (find test) (below_push n) ∙ find-append test (below n) (n ∷ [])

pub find_less : (test : ℕ → Bool) (n : ℕ) → test n ≡ false → find test (below (n + 1)) ≡ find test (below n)
find_less test n here =
    let last : find test (n ∷ []) ≡ None = rw here refl in
    find_next test n ∙ ap (option_or (find test (below n))) last ∙ or_none (find test (below n))

or_some : (o : Option ℕ) (n : ℕ) → option_or o (Some n) ≡ Some (unwrap_or o n)
or_some None n = refl
or_some (Some x) n = refl

pub find_here : (test : ℕ → Bool) (n : ℕ) → test n ≡ true → find test (below (n + 1)) ≡ Some (unwrap_or (find test (below n)) n)
find_here test n here =
    let last : find test (n ∷ []) ≡ Some n = rw here refl in
    find_next test n ∙ ap (option_or (find test (below n))) last ∙ or_some (find test (below n)) n

-- ---- the first place of each row

-- a place has row k
abbrev pub has_row : List (Option ℕ) → ℕ → ℕ → Bool
has_row rows k i = is_at_row k (row_in_list rows i)

pub no_firsts : (n : ℕ) (rows firsts : List (Option ℕ)) → length firsts ≡ n → ((k : ℕ) → k < n → row_in_list firsts k ≡ None) → AreFirsts n 0 rows firsts
no_firsts n rows firsts size none = record { size = size; each = λ k less. none k less ∙ find_none (has_row rows k) }

pub one_noted : (n : ℕ) (rows : List (Option ℕ)) (i k : ℕ) (firsts : List (Option ℕ)) → AreFirsts n i rows firsts → row_in_list rows i ≡ Some k → k < n
    → AreFirsts n (i + 1) rows (set firsts k (Some (unwrap_or (row_in_list firsts k) i)))
one_noted n rows i k firsts are here within = record {
  size = length-set firsts k (Some (unwrap_or (row_in_list firsts k) i)) ∙ are.size;
  each = λ j less. (let split : (j ≡ k) ⊎ (j ≢ k) = grind arith in
      elim split as (λ _. row_in_list (set firsts k (Some (unwrap_or (row_in_list firsts k) i))) j ≡ find (has_row rows j) (below (i + 1))) [
        | inl e ↦ subst (λ v. row_in_list (set firsts k (Some (unwrap_or (row_in_list firsts k) i))) v ≡ find (has_row rows v) (below (i + 1))) (sym e)
            (get_or-set_same firsts k (Some (unwrap_or (row_in_list firsts k) i)) None (omega (arith, are.size, within))
            ∙ ap (λ o. Some (unwrap_or o i)) (are.each k within)
            ∙ sym (find_here (has_row rows k) i (ap (is_at_row k) here ∙ same_row k)))
        | inr ne ↦ get_or-set_other firsts k j (Some (unwrap_or (row_in_list firsts k) i)) None ne ∙ are.each j less
            ∙ sym (find_less (has_row rows j) i (ap (is_at_row j) here ∙ other_row j k ne))
      ]);
}

pub none_noted : (n : ℕ) (rows : List (Option ℕ)) (i : ℕ) (firsts : List (Option ℕ)) → AreFirsts n i rows firsts → row_in_list rows i ≡ None → AreFirsts n (i + 1) rows firsts
none_noted n rows i firsts are here = record {
  size = are.size;
  each = λ j less. are.each j less ∙ sym (find_less (has_row rows j) i (ap (is_at_row j) here));
}

find_kept : (test : ℕ → Bool) (n m x : ℕ) → find test (below n) ≡ Some x → find test (below (n + m)) ≡ Some x
find_kept test n zero x e = (let same : n + zero ≡ n = omega arith in rw same e)
find_kept test n (suc m) x e =
    let next : n + suc m ≡ n + m + 1 = omega arith in
    ap (λ k. find test (below k)) next ∙ find_next test (n + m) ∙ ap (λ o. option_or o (find test ((n + m) ∷ []))) (find_kept test n m x e)

-- a row of a place is below the bound of all
pub row_below : (n : ℕ) (rows : List (Option ℕ)) (i k : ℕ) → AreRowsBelow n rows → i < length rows → row_in_list rows i ≡ Some k → k < n
row_below n rows i k below lt here = (let P : Option ℕ → Type 0 = λ row. IfSome row (λ j. j < n) in subst P here (below i None lt))

-- a place without a row, by the test that the code makes
pub none_by : (row : Option ℕ) (b : Bool) → is_some row ≡ not b → is_none row ≡ b
none_by None true e = refl
none_by None false e = absurd (cc)
none_by (Some k) true e = absurd (cc)
none_by (Some k) false e = refl

-- ---- tests that are the same below a bound

one_same : (f g : ℕ → Bool) (n : ℕ) → f n ≡ g n → find f (n ∷ []) ≡ find g (n ∷ [])
one_same f g n e = by_test (g n) refl e
  where
    by_test : (b : Bool) → g n ≡ b → f n ≡ g n → find f (n ∷ []) ≡ find g (n ∷ [])
    by_test true t same = (let first = same ∙ t in rw (first, t) refl)
    by_test false t same = (let first = same ∙ t in rw (first, t) refl)

pub find_same : (f g : ℕ → Bool) (n : ℕ) → ((k : ℕ) → k < n → f k ≡ g k) → find f (below n) ≡ find g (below n)
find_same f g zero same = sym (find_none f) ∙ find_none g
find_same f g (suc n) same =
    let last : f n ≡ g n = same n (omega arith) in
    let next : suc n ≡ n + 1 = omega arith in
    ap (λ k. find f (below k)) next ∙ find_next f n ∙ ap₂ option_or (find_same f g n (λ k lt. same k (omega (arith, lt)))) (one_same f g n last)
    ∙ sym (ap (λ k. find g (below k)) next ∙ find_next g n)
