-- The least batch of which two tables have other planes.
use Rattle.std.proofs.Common.{◌≡◌, ℕ, zero, suc, ◌+◌, ◌<◌, ◌≤◌, ◌==◌, ◌&&◌, Bool, true, false, not, List, map, refl, ap, ap₂, sym, ◌∙◌, arith}
use Rattle.std.specs.Prelude.{Option, Some, None, Ok, Err, find, option_map, unwrap_or, if◌then◌else◌}
use Rattle.std.specs.Option.{option_or}
use Rattle.std.specs.List.{range_with_len}
use Rattle.fm_base.specs.Lists.{below}
use Rattle.campaign_plan.specs.declared.Outcome.{Outcome}
use Rattle.campaign_plan.specs.Analysis.{Analysis, batch_count}
use Rattle.campaign_plan.specs.Batches.{Entry}
use Rattle.result_file.specs.declared.Row.{Row}
use Rattle.result_file.specs.KeptRows.{entry_of}
use Rattle.result_file.specs.ResultText.{result_rows}
use Rattle.result_merge.specs.declared.merge.MergeRefusal.{MergeRefusal}
use Rattle.result_merge.specs.declared.merge.MergeRefusal.TheVariants.{Differs}
use Rattle.result_merge.specs.Union.{rising}
use Rattle.result_merge.specs.Steps.{found_in_either, is_other_in}
use Rattle.result_merge.specs.Merged.{are_other, first_other, listed_planes, merged_unless, merged}
use Rattle.result_merge.specs.Tables.{Table, planes_table, at_batch, planes_at, at_either, first_other_at, difference}
use Rattle.result_merge.proofs.Spans.{same_span}
use Rattle.result_merge.proofs.Unions.{is_span}
use Rattle.result_merge.proofs.Looking.{passes_none}
use Rattle.result_merge.proofs.Tabling.{table_at}
use Rattle.result_merge.proofs.Rowing.{finds_first, found_within_range}

-- ---- the loop

abbrev pub other_at : Table → Table → ℕ → Bool
other_at first second batch = are_other (at_batch first batch) (at_batch second batch)

pub both_other : (o q : Option Outcome) (x y : Outcome) (answer : Bool) → o ≡ Some x → q ≡ Some y → answer ≡ not ((x.danger == y.danger) && (x.noticed == y.noticed)) → are_other o q ≡ answer
both_other o q x y answer e f is = ap₂ are_other e f ∙ sym is

pub first_none : (o q : Option Outcome) → o ≡ None → are_other o q ≡ false
first_none o q e = ap (λ a. are_other a q) e

second_missing : (o : Option Outcome) → are_other o None ≡ false
second_missing None = refl
second_missing (Some x) = refl

pub second_none : (o q : Option Outcome) → q ≡ None → are_other o q ≡ false
second_none o q e = ap (are_other o) e ∙ second_missing o

pub differs_at : (n : ℕ) (first second : Table) (batch : ℕ) (x y : Outcome) → batch < n → at_batch first batch ≡ Some x → at_batch second batch ≡ Some y
    → other_at first second batch ≡ true → ((k : ℕ) → k < batch → other_at first second k ≡ false) → Some (Differs batch x y) ≡ difference n first second
unfolding below
differs_at n first second batch x y lt e f other before =
    let least : first_other_at n first second ≡ Some batch = finds_first (other_at first second) 0 n batch (omega arith) (omega (arith, lt)) other (λ j low. before j) in
    let one : planes_at first batch ≡ x = ap (λ o. unwrap_or o (record { danger = 0; noticed = 0 })) e in
    let two : planes_at second batch ≡ y = ap (λ o. unwrap_or o (record { danger = 0; noticed = 0 })) f in
    sym (ap (option_map (λ k. Differs k (planes_at first k) (planes_at second k))) least ∙ ap₂ {C = Option MergeRefusal} (λ a b. Some (Differs batch a b)) one two)

pub differs_nowhere : (n : ℕ) (first second : Table) → ((k : ℕ) → k < n → other_at first second k ≡ false) → None ≡ difference n first second
unfolding below
differs_nowhere n first second none =
    sym (ap (option_map (λ k. Differs k (planes_at first k) (planes_at second k))) (passes_none (other_at first second) 0 n (λ k low lt. none k (omega (arith, lt)))))

-- ---- from tables to lists

same_find : (f g : ℕ → Bool) (a n : ℕ) → ((k : ℕ) → a ≤ k → k < a + n → f k ≡ g k) → find f (range_with_len a n) ≡ find g (range_with_len a n)
same_find f g a zero same = refl
same_find f g a (suc n) same =
    let rest : find f (range_with_len (a + 1) n) ≡ find g (range_with_len (a + 1) n) = same_find f g (a + 1) n (λ k le lt. same k (omega (arith, le)) (omega (arith, lt))) in
    ap₂ {C = Option ℕ} (λ (b : Bool) (o : Option ℕ). if b then Some a else o) (same a (omega arith) (omega arith)) rest

same_first : (n : ℕ) (a b : List Entry) → first_other_at n (planes_table n a) (planes_table n b) ≡ first_other n a b
unfolding below
same_first n a b =
    same_find (other_at (planes_table n a) (planes_table n b)) (is_other_in a b) 0 n
    (λ k le lt. ap₂ are_other (table_at n a k (omega (arith, lt))) (table_at n b k (omega (arith, lt))))

least_within : (n : ℕ) (first second : Table) (batch : ℕ) → first_other_at n first second ≡ Some batch → batch < n
unfolding below
least_within n first second batch e = let range = found_within_range (other_at first second) 0 n batch e in omega (arith, range)

module _ (p : Analysis) (first second : List Row) where
  abbrev a : List Entry
  a = map entry_of first

  abbrev b : List Entry
  b = map entry_of second

  abbrev n : ℕ
  n = batch_count p

  -- the refusal that the tables give is that of the lists
  pub refused : (firsts seconds : Table) (refusal : MergeRefusal) → firsts ≡ planes_table n a → seconds ≡ planes_table n b → Some refusal ≡ difference n firsts seconds → merged p first second ≡ Err refusal
  unfolding merged
  refused firsts seconds refusal e f is =
      let here : Some refusal ≡ difference n (planes_table n a) (planes_table n b) = is ∙ ap₂ (difference n) e f in
      by_first (first_other_at n (planes_table n a) (planes_table n b)) refl here
    where
      by_first : (o : Option ℕ) → first_other_at n (planes_table n a) (planes_table n b) ≡ o
          → Some refusal ≡ option_map (λ k. Differs k (planes_at (planes_table n a) k) (planes_at (planes_table n b) k)) o → merged_unless (first_other n a b) p a b ≡ Err refusal
      by_first None is got = absurd (cc)
      by_first (Some batch) is got =
          let range = least_within n (planes_table n a) (planes_table n b) batch is in
          let one : planes_at (planes_table n a) batch ≡ listed_planes a batch = ap (λ o. unwrap_or o (record { danger = 0; noticed = 0 })) (table_at n a batch range) in
          let two : planes_at (planes_table n b) batch ≡ listed_planes b batch = ap (λ o. unwrap_or o (record { danger = 0; noticed = 0 })) (table_at n b batch range) in
          let named : Differs batch (planes_at (planes_table n a) batch) (planes_at (planes_table n b) batch) ≡ refusal = cc in
          ap (λ o. merged_unless o p a b) (sym (same_first n a b) ∙ is)
          ∙ ap (λ r. Err r) (sym (ap₂ {C = MergeRefusal} (Differs batch) one two) ∙ named)

  -- the rows that the tables give are those of the lists
  pub gives_rows : (firsts seconds : Table) (rows : List Row) → firsts ≡ planes_table n a → seconds ≡ planes_table n b → None ≡ difference n firsts seconds
      → rows ≡ result_rows p (rising n (at_either firsts seconds)) → merged p first second ≡ Ok rows
  unfolding merged
  gives_rows firsts seconds rows e f is made =
      let here : None ≡ difference n (planes_table n a) (planes_table n b) = is ∙ ap₂ (difference n) e f in
      let none : first_other n a b ≡ None = sym (same_first n a b) ∙ no_first (first_other_at n (planes_table n a) (planes_table n b)) here in
      let same : rising n (at_either firsts seconds) ≡ rising n (found_in_either a b) =
      ap₂ (λ s t. rising n (at_either s t)) e f ∙ is_span n (at_either (planes_table n a) (planes_table n b))
      ∙ same_span 0 n (at_either (planes_table n a) (planes_table n b)) (found_in_either a b) (λ k le lt. ap₂ option_or (table_at n a k (omega (arith, lt))) (table_at n b k (omega (arith, lt))))
      ∙ sym (is_span n (found_in_either a b)) in
      ap (λ o. merged_unless o p a b) none ∙ ap (λ es. Ok (result_rows p es)) (sym same) ∙ ap (λ rs. Ok rs) (sym made)
    where
      no_first : (o : Option ℕ) → None ≡ option_map (λ k. Differs k (planes_at (planes_table n a) k) (planes_at (planes_table n b) k)) o → o ≡ None
      no_first None got = refl
      no_first (Some batch) got = absurd (cc)
