-- Tallies, fault by fault.
use Rattle.std.proofs.Common.{◌≡◌, ◌≢◌, ℕ, suc, ◌+◌, ◌<◌, ◌≤◌, ◌^◌, Bool, true, false, cond, not, List, [], ◌∷◌, ◌++◌, length, set, refl, ap, sym, ◌∙◌, arith, length-append}
use Rattle.std.specs.Prelude.{◌==◌, filter, if◌then◌else◌}
use Rattle.std.specs.List.{sum_by, count_by}
use Rattle.std.proofs.lemmas.Grind.{get_or-set_at}
use Rattle.std.proofs.lemmas.List.{get_or-set_other, append-nil}
use Rattle.std.proofs.lemmas.List.Elements.{filter-append}
use Rattle.std.proofs.lemmas.List.Filters.{sum_by-filter_both}
use Rattle.std.proofs.lemmas.List.FromFn.{length-range_with_len}
use Rattle.std.proofs.lemmas.List.Sums.{sum_by_push, length-filter, count_by-le-length}
use Rattle.metric_sums.specs.declared.Class.{Class}
use Rattle.metric_sums.specs.declared.Class.TheVariants.{Safe, Detected, Residual, SinglePoint, Latent, Outside}
use Rattle.metric_sums.specs.Classes.{is_class}
use Rattle.fm_base.specs.Lists.{below}
use Rattle.fm_base.proofs.Below.{below_push}
use Rattle.rate_table.specs.Table.{IsRateTable}
use Rattle.campaign_plan.specs.Analysis.{Analysis, fault_count, fault_numbered, part_of}
use Rattle.campaign_plan.specs.Batches.{class_of_fault}
use Rattle.campaign_plan.specs.Weights.{weight}
use Rattle.campaign_plan.proofs.Small.{weights_small}
use Rattle.fm_base.proofs.SumsBelow.{sum_up-push, sum_up-mono, sum_by-below}
use Rattle.result_file.specs.RowPlanes.{Planes}
use Rattle.fmeda_report.specs.declared.tally.Amount.{Amount}
use Rattle.fmeda_report.specs.declared.tally.Tally.{Tally}
use Rattle.fmeda_report.specs.Tallies.{tally_of, empty_tally, tally_at, one_more_fault, with_fault, IsSmall, AreAmountsSmall}

-- ---- one item more

-- one item more where the test is true
abbrev more_where : Bool → ℕ → Amount → Amount
more_where test w amount = if test then one_more_fault w amount else amount

-- those that pass
abbrev amount_by : (ℕ → Bool) → (ℕ → ℕ) → List ℕ → Amount
amount_by test w xs = record { faults = count_by test xs; weight = sum_by w (filter test xs) }

filter_push : (test : ℕ → Bool) (xs : List ℕ) (x : ℕ) → filter test (xs ++ x ∷ []) ≡ cond (test x) (filter test xs ++ x ∷ []) (filter test xs)
filter_push test xs x = filter-append test xs (x ∷ []) ∙ by_cases (test x)
  where
    by_cases : (b : Bool) → filter test xs ++ cond b (x ∷ []) [] ≡ cond b (filter test xs ++ x ∷ []) (filter test xs)
    by_cases true = refl
    by_cases false = append-nil (filter test xs)

amount_cases : (w : ℕ → ℕ) (x n : ℕ) (kept : List ℕ) (b : Bool)
    → record { faults = n + cond b 1 0; weight = sum_by w (cond b (kept ++ x ∷ []) kept) } ≡ more_where b (w x) (record { faults = n; weight = sum_by w kept })
amount_cases w x n kept true = λ j. record { faults = n + 1; weight = sum_by_push w kept x j }
amount_cases w x n kept false = let same : n + 0 ≡ n = omega arith in λ j. record { faults = same j; weight = sum_by w kept }

amount_push : (test : ℕ → Bool) (w : ℕ → ℕ) (xs : List ℕ) (x : ℕ) → amount_by test w (xs ++ x ∷ []) ≡ more_where (test x) (w x) (amount_by test w xs)
amount_push test w xs x =
    let pushed : amount_by test w (xs ++ x ∷ []) ≡ record { faults = count_by test xs + cond (test x) 1 0; weight = sum_by w (cond (test x) (filter test xs ++ x ∷ []) (filter test xs)) } =
    λ j. record { faults = sum_by_push (λ y. cond (test y) 1 0) xs x j; weight = sum_by w (filter_push test xs x j) } in
    pushed ∙ amount_cases w x (count_by test xs) (filter test xs) (test x)

-- items in all and by their class
abbrev tally_by : (ℕ → Class) → (ℕ → ℕ) → List ℕ → Tally
tally_by class w xs = record {
  all = record { faults = length xs; weight = sum_by w xs };
  safe = amount_by (λ i. is_class (class i) Safe) w xs;
  detected = amount_by (λ i. is_class (class i) Detected) w xs;
  residual = amount_by (λ i. is_class (class i) Residual) w xs;
  single_point = amount_by (λ i. is_class (class i) SinglePoint) w xs;
  latent = amount_by (λ i. is_class (class i) Latent) w xs;
  outside = amount_by (λ i. is_class (class i) Outside) w xs;
}

tally_cases : (c : Class) (w : ℕ) (t : Tally)
    → record {
      all = one_more_fault w t.all;
      safe = more_where (is_class c Safe) w t.safe;
      detected = more_where (is_class c Detected) w t.detected;
      residual = more_where (is_class c Residual) w t.residual;
      single_point = more_where (is_class c SinglePoint) w t.single_point;
      latent = more_where (is_class c Latent) w t.latent;
      outside = more_where (is_class c Outside) w t.outside;
    } ≡ with_fault c w t
tally_cases Safe w t = refl
tally_cases Detected w t = refl
tally_cases Residual w t = refl
tally_cases SinglePoint w t = refl
tally_cases Latent w t = refl
tally_cases Outside w t = refl

tally_push : (class : ℕ → Class) (w : ℕ → ℕ) (xs : List ℕ) (x : ℕ) → tally_by class w (xs ++ x ∷ []) ≡ with_fault (class x) (w x) (tally_by class w xs)
tally_push class w xs x =
    let longer : length (xs ++ x ∷ []) ≡ length xs + 1 = length-append xs (x ∷ []) in
    let pushed : tally_by class w (xs ++ x ∷ []) ≡ record {
      all = one_more_fault (w x) (tally_by class w xs).all;
      safe = more_where (is_class (class x) Safe) (w x) (tally_by class w xs).safe;
      detected = more_where (is_class (class x) Detected) (w x) (tally_by class w xs).detected;
      residual = more_where (is_class (class x) Residual) (w x) (tally_by class w xs).residual;
      single_point = more_where (is_class (class x) SinglePoint) (w x) (tally_by class w xs).single_point;
      latent = more_where (is_class (class x) Latent) (w x) (tally_by class w xs).latent;
      outside = more_where (is_class (class x) Outside) (w x) (tally_by class w xs).outside;
    } = λ j. record {
      all = record { faults = longer j; weight = sum_by_push w xs x j };
      safe = amount_push (λ i. is_class (class i) Safe) w xs x j;
      detected = amount_push (λ i. is_class (class i) Detected) w xs x j;
      residual = amount_push (λ i. is_class (class i) Residual) w xs x j;
      single_point = amount_push (λ i. is_class (class i) SinglePoint) w xs x j;
      latent = amount_push (λ i. is_class (class i) Latent) w xs x j;
      outside = amount_push (λ i. is_class (class i) Outside) w xs x j;
    } in
    pushed ∙ tally_cases (class x) (w x) (tally_by class w xs)

-- ---- tallies of few items of small weights

filter_less : (test : ℕ → Bool) (w : ℕ → ℕ) (xs : List ℕ) → sum_by w (filter test xs) ≤ sum_by w xs
filter_less test w xs = omega (arith, sum_by-filter_both test (λ x. not (test x)) (λ _. refl) w xs)

small_amount : (test : ℕ → Bool) (w : ℕ → ℕ) (xs : List ℕ) → length xs ≤ 2 ^ 20 → sum_by w xs ≤ 10 ^ 18 → IsSmall (amount_by test w xs)
small_amount test w xs few light = record {
  few = omega (arith, count_by-le-length test xs, few);
  light = omega (arith, filter_less test w xs, light);
}

small_tally : (class : ℕ → Class) (w : ℕ → ℕ) (xs : List ℕ) → length xs ≤ 2 ^ 20 → sum_by w xs ≤ 10 ^ 18 → AreAmountsSmall (tally_by class w xs)
small_tally class w xs few light = record {
  all = record { few = few; light = light };
  safe = small_amount (λ i. is_class (class i) Safe) w xs few light;
  detected = small_amount (λ i. is_class (class i) Detected) w xs few light;
  residual = small_amount (λ i. is_class (class i) Residual) w xs few light;
  single_point = small_amount (λ i. is_class (class i) SinglePoint) w xs few light;
  latent = small_amount (λ i. is_class (class i) Latent) w xs few light;
  outside = small_amount (λ i. is_class (class i) Outside) w xs few light;
}

-- ---- the faults of a part

-- the faults of a part below n
abbrev pub first_of_part : Analysis → ℕ → ℕ → List ℕ
first_of_part p k n = filter (λ i. part_of p (fault_numbered p i) == k) (below n)

first_push : (p : Analysis) (k n : ℕ) → first_of_part p k (suc n)
    ≡ cond (part_of p (fault_numbered p n) == k) (first_of_part p k n ++ n ∷ []) (first_of_part p k n)
first_push p k n =
    ap (filter (λ i. part_of p (fault_numbered p i) == k)) (below_push n)
    ∙ filter_push (λ i. part_of p (fault_numbered p i) == k) (below n) n

length-below : (n : ℕ) → length (below n) ≡ n
unfolding below
length-below n = length-range_with_len 0 n

-- the first weights sum to at most 10^18
weights_below : (p : Analysis) → IsRateTable p.rates → (n : ℕ) → n ≤ fault_count p → sum_by (weight p) (below n) ≤ 10 ^ 18
weights_below p table n le = omega (arith, sum_by-below n (weight p), sum_up-mono n (fault_count p) (weight p) le, weights_small p table)

-- one weight is at most 10^18
pub weight_light : (p : Analysis) → IsRateTable p.rates → (i : ℕ) → i < fault_count p → weight p i ≤ 10 ^ 18
weight_light p table i lt =
    omega (arith, sum_up-push i (weight p), sum_up-mono (suc i) (fault_count p) (weight p) (omega (arith, lt)), weights_small p table)

pub small_part : (p : Analysis) (planes : Planes) (k n : ℕ) → IsRateTable p.rates → fault_count p ≤ 2 ^ 20 → n ≤ fault_count p
    → AreAmountsSmall (tally_of p planes (first_of_part p k n))
small_part p planes k n table few le =
    let test : ℕ → Bool = λ i. part_of p (fault_numbered p i) == k in
    let short : length (first_of_part p k n) ≤ 2 ^ 20 = omega (arith, length-filter test (below n), count_by-le-length test (below n), length-below n, few, le) in
    let light : sum_by (weight p) (first_of_part p k n) ≤ 10 ^ 18 = omega (arith, filter_less test (weight p) (below n), weights_below p table n le) in
    small_tally (class_of_fault p planes) (weight p) (first_of_part p k n) short light

-- no fault yet
pub tally_start : (p : Analysis) (planes : Planes) (k : ℕ) → empty_tally ≡ tally_of p planes (first_of_part p k 0)
unfolding below
tally_start p planes k = refl

-- ---- one fault more

abbrev pub tallied : Analysis → Planes → List Tally → ℕ → ℕ → Type 0
tallied p planes tallies i k = tally_at tallies k ≡ tally_of p planes (first_of_part p k i)

pub tallied_more : (p : Analysis) (planes : Planes) (tallies : List Tally) (i part : ℕ) → part ≡ part_of p (fault_numbered p i) → part < length tallies
    → ((k : ℕ) → k < length tallies → tallied p planes tallies i k)
    → (k : ℕ) → k < length tallies
    → tallied p planes (set tallies part (with_fault (class_of_fault p planes i) (weight p i) (tally_at tallies part))) (i + 1) k
tallied_more p planes tallies i part is lt before k below = by_cases (part_of p (fault_numbered p i) == k) refl
  where
    next : suc i ≡ i + 1
    next = omega arith

    by_cases : (b : Bool) → (part_of p (fault_numbered p i) == k) ≡ b
        → tallied p planes (set tallies part (with_fault (class_of_fault p planes i) (weight p i) (tally_at tallies part))) (i + 1) k
    by_cases true e =
        let same : k ≡ part = grind (arith, e, is) in
        let more : first_of_part p k (i + 1) ≡ first_of_part p k i ++ i ∷ [] =
        ap (first_of_part p k) (sym next) ∙ first_push p k i ∙ ap (λ b. cond b (first_of_part p k i ++ i ∷ []) (first_of_part p k i)) e in
        get_or-set_at tallies part k (with_fault (class_of_fault p planes i) (weight p i) (tally_at tallies part)) empty_tally same lt
        ∙ ap (λ j. with_fault (class_of_fault p planes i) (weight p i) (tally_at tallies j)) (sym same)
        ∙ ap (with_fault (class_of_fault p planes i) (weight p i)) (before k below)
        ∙ sym (tally_push (class_of_fault p planes) (weight p) (first_of_part p k i) i)
        ∙ ap (tally_of p planes) (sym more)
    by_cases false e =
        let other : k ≢ part = grind (arith, e, is) in
        let same : first_of_part p k (i + 1) ≡ first_of_part p k i =
        ap (first_of_part p k) (sym next) ∙ first_push p k i ∙ ap (λ b. cond b (first_of_part p k i ++ i ∷ []) (first_of_part p k i)) e in
        get_or-set_other tallies part k (with_fault (class_of_fault p planes i) (weight p i) (tally_at tallies part)) empty_tally other
        ∙ before k below ∙ ap (tally_of p planes) (sym same)
