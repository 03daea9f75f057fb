-- The rows of rising batches, one more at a time; and the least batch that a test passes.
use Rattle.std.proofs.Common.{◌≡◌, ℕ, zero, suc, ◌+◌, ◌<◌, ◌≤◌, ◌⊎◌, inl, inr, Bool, true, false, List, [], ◌∷◌, ◌++◌, refl, ap, sym, subst, ◌∙◌, append-nil, arith}
use Rattle.std.specs.Prelude.{Option, Some, None, find, filter_map}
use Rattle.std.specs.List.{range_with_len}
use Rattle.std.proofs.lemmas.List.Elements.{filter_map-append}
use Rattle.metric_sums.specs.declared.Sums.{Sums}
use Rattle.metric_sums.specs.Totals.{plus, no_sums, AreSmall}
use Rattle.fm_base.specs.Lists.{below}
use Rattle.fm_base.proofs.Below.{below_push}
use Rattle.campaign_plan.specs.declared.Outcome.{Outcome}
use Rattle.campaign_plan.specs.Analysis.{Analysis, batch_count}
use Rattle.campaign_plan.specs.Batches.{total, own_sums, AreDistinct}
use Rattle.campaign_plan.specs.Kept.{IsPlan}
use Rattle.campaign_plan.proofs.Small.{small_sums}
use Rattle.campaign_plan.proofs.Running.{total_push}
use Rattle.result_file.specs.declared.Row.{Row}
use Rattle.result_file.specs.ResultText.{row_of, result_rows}
use Rattle.result_file.proofs.Appending.{rows_push}
use Rattle.result_merge.specs.Union.{rising}
use Rattle.result_merge.specs.Steps.{entry_if}
use Rattle.result_merge.proofs.Spans.{IsWithin, within_span}
use Rattle.result_merge.proofs.Unions.{is_span, rising_are}
use Rattle.result_merge.proofs.Looking.{once_within}

-- ---- one more batch

rising_more : (n : ℕ) (had : ℕ → Option Outcome) → rising (n + 1) had ≡ rising n had ++ filter_map (entry_if had) (n ∷ [])
rising_more n had =
    let more : n + 1 ≡ suc n = omega arith in
    ap (λ k. filter_map (entry_if had) (below k)) more ∙ ap (filter_map (entry_if had)) (below_push n) ∙ filter_map-append (entry_if had) (below n) (n ∷ [])

rising_none : (n : ℕ) (had : ℕ → Option Outcome) → had n ≡ None → rising (n + 1) had ≡ rising n had
rising_none n had e =
    let none : filter_map (entry_if had) (n ∷ []) ≡ [] = rw e refl in
    rising_more n had ∙ ap (λ more. rising n had ++ more) none ∙ append-nil (rising n had)

rising_some : (n : ℕ) (had : ℕ → Option Outcome) (x : Outcome) → had n ≡ Some x → rising (n + 1) had ≡ rising n had ++ (n, x) ∷ []
rising_some n had x e =
    let one : filter_map (entry_if had) (n ∷ []) ≡ (n, x) ∷ [] = rw e refl in
    rising_more n had ∙ ap (λ more. rising n had ++ more) one

-- ---- the rows so far, and their sums

-- the rows of the batches below n, and the sums over them
pub record AreSoFar (p : Analysis) (had : ℕ → Option Outcome) (n : ℕ) (rows : List Row) (sums : Sums) : Type 0 where
  pub rows_are : rows ≡ result_rows p (rising n had)
  pub sums_are : sums ≡ total p (rising n had)

pub none_yet : (p : Analysis) (had : ℕ → Option Outcome) (rows : List Row) (sums : Sums) → rows ≡ [] → sums ≡ no_sums → AreSoFar p had 0 rows sums
unfolding below result_rows
none_yet p had rows sums e f = record { rows_are = e; sums_are = f }

distinct_rising : (p : Analysis) (had : ℕ → Option Outcome) (n : ℕ) → n ≤ batch_count p → AreDistinct p (rising n had)
distinct_rising p had n le =
    let h : IsWithin 0 n (rising n had) = rw (is_span n had) (within_span 0 n n had (omega arith)) in
    record {
      within = λ k d lt. (let less = (rising_are n had).within k d lt in omega (arith, less, le));
      once = once_within 0 n (rising n had) h;
    }

pub sums_stay_small : (p : Analysis) → IsPlan p → (had : ℕ → Option Outcome) (n : ℕ) (rows : List Row) (sums own : Sums) (x : Outcome) → AreSoFar p had n rows sums → n < batch_count p
    → had n ≡ Some x → own ≡ own_sums p n x → AreSmall (plus sums own)
sums_stay_small p plan had n rows sums own x far lt e o =
    let all : plus sums own ≡ total p (rising (n + 1) had) =
    ap (λ s. plus s own) far.sums_are ∙ ap (plus (total p (rising n had))) o ∙ sym (total_push p (rising n had) (n, x)) ∙ ap (total p) (sym (rising_some n had x e)) in
    subst AreSmall (sym all) (small_sums p plan (rising (n + 1) had) (distinct_rising p had (n + 1) (omega (arith, lt))))

-- a batch of neither list
pub one_less : (p : Analysis) (had : ℕ → Option Outcome) (n : ℕ) (rows : List Row) (sums : Sums) → AreSoFar p had n rows sums → had n ≡ None → AreSoFar p had (n + 1) rows sums
one_less p had n rows sums far e =
    record { rows_are = far.rows_are ∙ ap (result_rows p) (sym (rising_none n had e)); sums_are = far.sums_are ∙ ap (total p) (sym (rising_none n had e)) }

-- a batch of one of them
pub one_more : (p : Analysis) (had : ℕ → Option Outcome) (n : ℕ) (rows now : List Row) (sums own more : Sums) (x : Outcome) → AreSoFar p had n rows sums → had n ≡ Some x
    → own ≡ own_sums p n x → more ≡ plus sums own → now ≡ rows ++ row_of (n, x) more ∷ [] → AreSoFar p had (n + 1) now more
one_more p had n rows now sums own more x far e o added pushed =
    let grown : rising (n + 1) had ≡ rising n had ++ (n, x) ∷ [] = rising_some n had x e in
    let all : more ≡ total p (rising n had ++ (n, x) ∷ []) =
    added ∙ ap (λ s. plus s own) far.sums_are ∙ ap (plus (total p (rising n had))) o ∙ sym (total_push p (rising n had) (n, x)) in
    record {
      rows_are = pushed ∙ ap (λ rs. rs ++ row_of (n, x) more ∷ []) far.rows_are ∙ ap (λ s. result_rows p (rising n had) ++ row_of (n, x) s ∷ []) all
          ∙ sym (rows_push p (rising n had) (n, x)) ∙ ap (result_rows p) (sym grown);
      sums_are = all ∙ ap (total p) (sym grown);
    }

-- ---- the least that passes

nat_cases : (a k : ℕ) → a ≤ k → (a ≡ k) ⊎ (a < k)
nat_cases a k le = grind (arith, le)

pub finds_first : (test : ℕ → Bool) (a n k : ℕ) → a ≤ k → k < a + n → test k ≡ true → ((j : ℕ) → a ≤ j → j < k → test j ≡ false) → find test (range_with_len a n) ≡ Some k
finds_first test a zero k le lt passes before = absurd (omega (arith, le, lt))
finds_first test a (suc n) k le lt passes before =
    by_place (nat_cases a k le) (λ less. finds_first test (a + 1) n k (omega (arith, less)) (omega (arith, lt)) passes (λ j low. before j (omega (arith, low))))
  where
    by_place : (a ≡ k) ⊎ (a < k) → (a < k → find test (range_with_len (a + 1) n) ≡ Some k) → find test (range_with_len a (suc n)) ≡ Some k
    by_place (inl same) later = let here : test a ≡ true = ap test same ∙ passes in rw here (ap (λ j. Some j) same)
    by_place (inr less) later = let here : test a ≡ false = before a (omega arith) less in rw here (later less)

-- what is found is in the range
pub found_within_range : (test : ℕ → Bool) (a n k : ℕ) → find test (range_with_len a n) ≡ Some k → k < a + n
found_within_range test a zero k e = absurd (cc)
found_within_range test a (suc n) k e = by_test (test a) refl (found_within_range test (a + 1) n k)
  where
    by_test : (here : Bool) → test a ≡ here → (find test (range_with_len (a + 1) n) ≡ Some k → k < a + 1 + n) → k < a + suc n
    by_test true t later = let got : Some a ≡ Some k = (rw t at e) in let same : a ≡ k = cc in omega (arith, same)
    by_test false t later = let rest = later (rw t at e) in omega (arith, rest)
