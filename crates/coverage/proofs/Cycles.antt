-- The flips of each cycle add up to those of all.
use Rattle.std.proofs.Common.{◌≡◌, ◌∙◌, sym, subst, ap, refl, ℕ, zero, suc, ◌+◌, ◌-◌, ◌*◌, ◌%◌, ◌<◌, ◌≤◌, Bool, true, false, cond, List, [], ◌∷◌, length, get_or, mul-le-mul_left, add-one, arith}
use Rattle.std.specs.Prelude.{not, ◌&&◌, ◌==◌, nat_lt, sum_by, count_by, slice_index, All, Contains}
use Rattle.std.specs.List.Sorted.{IsStrictlyIncreasing}
use Rattle.std.proofs.lemmas.Grind.{get_or_default_zero}
use Rattle.std.proofs.lemmas.List.Elements.{All-head, All-tail}
use Rattle.std.proofs.lemmas.List.Sums.{sum_by-cons}
use Rattle.circuit.specs.declared.parts.Fault.{Fault}
use Rattle.circuit.specs.Effects.{is_permanent}
use Rattle.fm_base.specs.Lists.{below}
use Rattle.fm_base.proofs.SumsBelow.{sum_by-filter, where_true}
use Rattle.fault_list.specs.Faults.{fault_at, faults_for}
use Rattle.fault_list.specs.Kept.{count_for, flip_count, stuck_count}
use Rattle.fault_list.proofs.Numbers.{flip_at, length_faults, pulse_at, stuck_at}
use Rattle.fault_list.proofs.Rows.{some_wide}
use Rattle.fault_list.proofs.Stretches.{are_cycles}
use Rattle.workload.specs.declared.run.Run.{Run}
use Rattle.workload.specs.Runs.{cycles_of}
use Rattle.campaign_plan.specs.Analysis.{Analysis, fault_count, fault_numbered}
use Rattle.campaign_plan.specs.Kept.{AreSettings}
use Rattle.campaign_plan.specs.Weights.{weight}
use Rattle.coverage.specs.Laws.{CyclesAddUp, EachUpsetIsTried, TriedAreAmongAll, is_flip}
use Rattle.coverage.specs.Upsets.{counted_latches, counts, is_flip_in, mission_runs, weight_in}
use Rattle.coverage.proofs.Sums.{sum_same}
use Rattle.std.proofs.Math.Nat.{mod-lt}

-- ---- sums of sums

zeros : {X : Type 0} (xs : List X) → sum_by (λ x. 0) xs ≡ 0
zeros [] = refl
zeros (x ∷ xs) = omega (arith, zeros xs, sum_by-cons (λ y. 0) x xs)

added : {X : Type 0} (f g : X → ℕ) (xs : List X) → sum_by (λ x. f x + g x) xs ≡ sum_by f xs + sum_by g xs
added f g [] = refl
added f g (x ∷ xs) = omega (arith, added f g xs, sum_by-cons (λ y. f y + g y) x xs, sum_by-cons f x xs, sum_by-cons g x xs)

-- either may be added up first
pub swapped : {X Y : Type 0} (f : X → Y → ℕ) (xs : List X) (ys : List Y) → sum_by (λ x. sum_by (f x) ys) xs ≡ sum_by (λ y. sum_by (λ x. f x y) xs) ys
swapped f [] ys = sym (zeros ys)
swapped f (x ∷ xs) ys =
    let more : sum_by (λ y. sum_by (λ z. f z y) (x ∷ xs)) ys ≡ sum_by (λ y. f x y + sum_by (λ z. f z y) xs) ys =
    λ j. sum_by (λ y. sum_by-cons (λ z. f z y) x xs j) ys in
    omega (arith, sum_by-cons (λ z. sum_by (f z) ys) x xs, swapped f xs ys, added (f x) (λ y. sum_by (λ z. f z y) xs) ys, more)

-- ---- numbers that rise

next : (xs : List ℕ) → IsStrictlyIncreasing xs → (k : ℕ) → suc k < length xs → slice_index xs k < slice_index xs (suc k)
next xs rises k lt = subst (λ m. slice_index xs k < slice_index xs m) (add-one k) (rises k (omega (arith, lt)))

rest_rises : (x : ℕ) (xs : List ℕ) → IsStrictlyIncreasing (x ∷ xs) → IsStrictlyIncreasing xs
rest_rises x xs rises = λ k lt. subst (λ m. slice_index xs k < slice_index xs m) (sym (add-one k)) (next (x ∷ xs) rises (suc k) (omega (arith, lt)))

first_least : (x : ℕ) (xs : List ℕ) → IsStrictlyIncreasing (x ∷ xs) → (k : ℕ) → k < length xs → x < slice_index xs k
first_least x xs rises zero lt = next (x ∷ xs) rises 0 (omega (arith, lt))
first_least x xs rises (suc k) lt =
    let before : x < slice_index xs k = first_least x xs rises k (omega (arith, lt)) in
    let step : slice_index xs k < slice_index xs (suc k) = next (x ∷ xs) rises (suc k) (omega (arith, lt)) in
    omega (arith, before, step)

-- a number below all of them is none of them
none_below : (key value : ℕ) (xs : List ℕ) → ((k : ℕ) → k < length xs → key < slice_index xs k) → sum_by (λ x. where_true (key == x) value) xs ≡ 0
none_below key value [] above = refl
none_below key value (x ∷ xs) above =
    let first : key < x = above 0 (omega arith) in
    let other : (key == x) ≡ false = grind (arith, first) in
    let here : where_true (key == x) value ≡ 0 = rw other refl in
    omega (arith, sum_by-cons (λ y. where_true (key == y) value) x xs, none_below key value xs (λ k lt. above (suc k) (omega (arith, lt))), here)

-- each stands once among them
pub once_among : (value : ℕ) (xs : List ℕ) → IsStrictlyIncreasing xs → (k : ℕ) → k < length xs
    → sum_by (λ x. where_true (slice_index xs k == x) value) xs ≡ value
once_among value [] rises k lt = absurd (omega (arith, lt))
once_among value (x ∷ xs) rises zero lt =
    let same : (x == x) ≡ true = grind arith in
    let here : where_true (x == x) value ≡ value = rw same refl in
    omega (arith, sum_by-cons (λ y. where_true (x == y) value) x xs, none_below x value xs (first_least x xs rises), here)
once_among value (x ∷ xs) rises (suc k) lt =
    let inside : k < length xs = omega (arith, lt) in
    let least = first_least x xs rises k inside in
    let other : (slice_index xs k == x) ≡ false = grind (arith, least) in
    let here : where_true (slice_index xs k == x) value ≡ 0 = rw other refl in
    omega (arith, sum_by-cons (λ y. where_true (slice_index xs k == y) value) x xs, once_among value xs (rest_rises x xs rises) k inside, here)

-- ---- the flips of the fault list

and_true : (b : Bool) → (b && true) ≡ b
and_true true = refl
and_true false = refl

and_false : (b : Bool) → (b && false) ≡ false
and_false true = refl
and_false false = refl

-- one of the cycles, where a test is true
once_tested : (test : Bool) (value : ℕ) (xs : List ℕ) → IsStrictlyIncreasing xs → (k : ℕ) → k < length xs
    → sum_by (λ x. where_true ((slice_index xs k == x) && test) value) xs ≡ where_true test value
once_tested true value xs rises k lt =
    (λ j. sum_by (λ x. where_true (and_true (slice_index xs k == x) j) value) xs) ∙ once_among value xs rises k lt
once_tested false value xs rises k lt = (λ j. sum_by (λ x. where_true (and_false (slice_index xs k == x) j) value) xs) ∙ zeros xs

-- a flip in one of the cycles is a flip
is_told : List ℕ → Bool → ℕ → Fault → Type 0
is_told flips test value f = sum_by (λ cycle. where_true (is_flip_in cycle f && test) value) flips ≡ where_true (is_flip f && test) value

module _ (nets latches : ℕ) (flips pulses : List ℕ) (rises : IsStrictlyIncreasing flips) (test : Bool) (value : ℕ) where
  listed_told : (i : ℕ) → i < count_for nets latches flips pulses → is_told flips test value (fault_at (faults_for nets latches flips pulses) i)
  unfolding is_told
  listed_told i lt = by_place (nat_lt i (stuck_count nets)) refl (nat_lt i (stuck_count nets + flip_count latches flips)) refl
    where
      by_place : (a : Bool) → nat_lt i (stuck_count nets) ≡ a → (b : Bool) → nat_lt i (stuck_count nets + flip_count latches flips) ≡ b
          → is_told flips test value (fault_at (faults_for nets latches flips pulses) i)
      by_place true e b f =
          let low : i < stuck_count nets = grind (arith, e) in
          subst (is_told flips test value) (sym (stuck_at nets latches flips pulses i low)) (zeros flips)
      by_place false e true f =
          let from : stuck_count nets ≤ i = grind (arith, e) in
          let upper : i < stuck_count nets + flip_count latches flips = grind (arith, f) in
          let to : i - stuck_count nets < flip_count latches flips = omega (arith, from, upper) in
          let width : 0 < length flips = some_wide latches (i - stuck_count nets) (length flips) to in
          subst (is_told flips test value) (sym (flip_at nets latches flips pulses i from to))
          (once_tested test value flips rises ((i - stuck_count nets) % length flips) (mod-lt (i - stuck_count nets) width))
      by_place false e false f =
          let from : stuck_count nets + flip_count latches flips ≤ i = grind (arith, f) in
          subst (is_told flips test value) (sym (pulse_at nets latches flips pulses i from lt)) (zeros flips)

pub flip_told : (p : Analysis) (i : ℕ) → i < fault_count p → IsStrictlyIncreasing p.settings.flips → (test : Bool) (value : ℕ)
    → sum_by (λ cycle. where_true (is_flip_in cycle (fault_numbered p i) && test) value) p.settings.flips ≡ where_true (is_flip (fault_numbered p i) && test) value
unfolding is_told
flip_told p i lt rises test value =
    let all = length_faults (length p.circuit.drivers) (length p.circuit.latches) p.settings.flips p.settings.pulses in
    listed_told (length p.circuit.drivers) (length p.circuit.latches) p.settings.flips p.settings.pulses rises test value i (omega (arith, lt, all))

-- without pulses what isn't permanent is a flip
is_lasting_or_flip : Fault → Type 0
is_lasting_or_flip f = is_flip f ≡ not (is_permanent f)

no_pulse : (nets latches : ℕ) (flips : List ℕ) (i : ℕ) → i < count_for nets latches flips [] → is_lasting_or_flip (fault_at (faults_for nets latches flips []) i)
unfolding is_lasting_or_flip
no_pulse nets latches flips i lt = by_place (nat_lt i (stuck_count nets)) refl
  where
    by_place : (a : Bool) → nat_lt i (stuck_count nets) ≡ a → is_lasting_or_flip (fault_at (faults_for nets latches flips []) i)
    by_place true e = let low : i < stuck_count nets = grind (arith, e) in subst is_lasting_or_flip (sym (stuck_at nets latches flips [] i low)) refl
    by_place false e =
        let from : stuck_count nets ≤ i = grind (arith, e) in
        let none : nets * length {A = ℕ} [] ≡ 0 = omega arith in
        subst is_lasting_or_flip (sym (flip_at nets latches flips [] i from (omega (arith, from, lt, none)))) refl

pub all_flips : (p : Analysis) → p.settings.pulses ≡ [] → (i : ℕ) → i < fault_count p → is_flip (fault_numbered p i) ≡ not (is_permanent (fault_numbered p i))
unfolding is_lasting_or_flip
all_flips p none i lt =
    let nets : ℕ = length p.circuit.drivers in
    let latches : ℕ = length p.circuit.latches in
    let all = length_faults nets latches p.settings.flips p.settings.pulses in
    let fewer : i < count_for nets latches p.settings.flips [] = subst (λ (pulses : List ℕ). i < count_for nets latches p.settings.flips pulses) none (omega (arith, lt, all)) in
    subst (λ (pulses : List ℕ). is_lasting_or_flip (fault_at (faults_for nets latches p.settings.flips pulses) i)) (sym none)
    (no_pulse nets latches p.settings.flips i fewer)

-- THE CYCLES ADD UP
pub cycles_add_up : CyclesAddUp
cycles_add_up p test settings =
    let rises : IsStrictlyIncreasing p.settings.flips = (are_cycles p.settings.stretch p.settings.flips settings.flips).rising in
    let own : ℕ → Bool = λ i. counts p (fault_numbered p i) && test i in
    let all : List ℕ = below (fault_count p) in
    let seen : (cycle : ℕ) → weight_in p test cycle ≡ sum_by (λ i. where_true (is_flip_in cycle (fault_numbered p i) && own i) (weight p i)) all =
    λ cycle. sum_by-filter (λ i. is_flip_in cycle (fault_numbered p i) && own i) (weight p) all in
    (λ j. sum_by (λ cycle. seen cycle j) p.settings.flips)
    ∙ swapped (λ cycle i. where_true (is_flip_in cycle (fault_numbered p i) && own i) (weight p i)) p.settings.flips all
    ∙ sum_same (λ i. sum_by (λ cycle. where_true (is_flip_in cycle (fault_numbered p i) && own i) (weight p i)) p.settings.flips)
    (λ i. where_true (is_flip (fault_numbered p i) && own i) (weight p i)) (fault_count p) (λ i lt. flip_told p i lt rises (own i) (weight p i))
    ∙ sym (sum_by-filter (λ i. is_flip (fault_numbered p i) && own i) (weight p) all)

-- ---- how many upsets were tried

-- what a count adds
abbrev one_where : Bool → ℕ
one_where b = cond b 1 0

-- numbers that rise from a bound on, below another
are_from : ℕ → List ℕ → Type 0
are_from a xs = (k : ℕ) → k < length xs → a ≤ slice_index xs k

later : (x : ℕ) (xs : List ℕ) → IsStrictlyIncreasing (x ∷ xs) → are_from (x + 1) xs
unfolding are_from
later x xs rises = λ k lt. omega (arith, first_least x xs rises k lt)

few_below : (n a : ℕ) (xs : List ℕ) → IsStrictlyIncreasing xs → are_from a xs → count_by (λ x. nat_lt x n) xs ≤ n - a
unfolding are_from
few_below n a [] rises from = omega arith
few_below n a (x ∷ xs) rises from = by_first (nat_lt x n) refl (few_below n (x + 1) xs (rest_rises x xs rises) (later x xs rises))
  where
    low : a ≤ x
    low = from 0 (omega arith)

    by_first : (b : Bool) → nat_lt x n ≡ b → count_by (λ y. nat_lt y n) xs ≤ n - (x + 1) → count_by (λ y. nat_lt y n) (x ∷ xs) ≤ n - a
    by_first true e rest =
        let inside : x < n = grind (arith, e) in
        let here : one_where (nat_lt x n) ≡ 1 = rw e refl in
        omega (arith, sum_by-cons (λ y. one_where (nat_lt y n)) x xs, rest, low, inside, here)
    by_first false e rest =
        let here : one_where (nat_lt x n) ≡ 0 = rw e refl in
        let behind : n ≤ x = grind (arith, e) in
        omega (arith, sum_by-cons (λ y. one_where (nat_lt y n)) x xs, rest, low, behind, here)

-- and where each number from the bound on stands among them
holds_from : ℕ → ℕ → List ℕ → Type 0
holds_from n a xs = (k : ℕ) → a ≤ k → k < n → Contains xs k

all_below : (n a : ℕ) (xs : List ℕ) → IsStrictlyIncreasing xs → are_from a xs → holds_from n a xs → n - a ≤ count_by (λ x. nat_lt x n) xs
unfolding are_from holds_from
all_below n a [] rises from holds = by_room (nat_lt a n) refl
  where
    by_room : (b : Bool) → nat_lt a n ≡ b → n - a ≤ 0
    by_room true e = (let there = holds a (omega arith) (grind (arith, e)) in absurd (omega (arith, there.1)))
    by_room false e = let none : n ≤ a = grind (arith, e) in omega (arith, none)
all_below n a (x ∷ xs) rises from holds = by_room (nat_lt a n) refl (all_below n (x + 1) xs (rest_rises x xs rises) (later x xs rises))
  where
    low : a ≤ x
    low = from 0 (omega arith)

    -- one of them is in the rest, unless it is the first
    in_rest : (k : ℕ) → x < k → Contains (x ∷ xs) k → Contains xs k
    in_rest k above (zero, inside, is) = absurd (omega (arith, above, is))
    in_rest k above (suc j, inside, is) = (j, omega (arith, inside), is)

    is_first : Contains (x ∷ xs) a → x ≡ a
    is_first (zero, inside, is) = is
    is_first (suc j, inside, is) =
        let within : j < length xs = omega (arith, inside) in
        let least = first_least x xs rises j within in
        let same : slice_index xs j ≡ a = sym (get_or_default_zero xs j a within) ∙ is in
        absurd (omega (arith, low, least, same))

    by_room : (b : Bool) → nat_lt a n ≡ b → (holds_from n (x + 1) xs → n - (x + 1) ≤ count_by (λ y. nat_lt y n) xs)
        → n - a ≤ count_by (λ y. nat_lt y n) (x ∷ xs)
    by_room false e more = let none : n ≤ a = grind (arith, e) in omega (arith, none)
    by_room true e more =
        let room : a < n = grind (arith, e) in
        let first : x ≡ a = is_first (holds a (omega arith) room) in
        let inside : (nat_lt x n) ≡ true = grind (arith, first, e) in
        let here : one_where (nat_lt x n) ≡ 1 = rw inside refl in
        let rest : n - (x + 1) ≤ count_by (λ y. nat_lt y n) xs =
        more (λ k le lt. in_rest k (omega (arith, le)) (holds k (omega (arith, le, first)) lt)) in
        omega (arith, sum_by-cons (λ y. one_where (nat_lt y n)) x xs, rest, first, here)

-- over lists of runs
less_each : {X : Type 0} (f g : X → ℕ) (xs : List X) → ((x : X) → f x ≤ g x) → sum_by f xs ≤ sum_by g xs
less_each f g [] less = omega arith
less_each f g (x ∷ xs) less = omega (arith, sum_by-cons f x xs, sum_by-cons g x xs, less x, less_each f g xs less)

same_each : {X : Type 0} (f g : X → ℕ) (xs : List X) → All (λ x. f x ≡ g x) xs → sum_by f xs ≡ sum_by g xs
same_each f g [] same = refl
same_each f g (x ∷ xs) same =
    omega (
      arith,
      sum_by-cons f x xs,
      sum_by-cons g x xs,
      All-head (λ y. f y ≡ g y) x xs same,
      same_each f g xs (All-tail (λ y. f y ≡ g y) x xs same),
    )

-- the cycles of the list that a run has
abbrev tried_in : Analysis → Run → ℕ
tried_in p run = count_by (λ cycle. nat_lt cycle (cycles_of run)) p.settings.flips

rising : (p : Analysis) → AreSettings p.settings → IsStrictlyIncreasing p.settings.flips
rising p settings = (are_cycles p.settings.stretch p.settings.flips settings.flips).rising

few_in : (p : Analysis) → AreSettings p.settings → (run : Run) → tried_in p run ≤ cycles_of run
unfolding are_from
few_in p settings run = omega (arith, few_below (cycles_of run) 0 p.settings.flips (rising p settings) (λ k lt. omega arith))

-- NO MORE THAN THERE ARE
pub tried_are_among_all : TriedAreAmongAll
tried_are_among_all p settings =
    mul-le-mul_left (counted_latches p) (less_each (tried_in p) cycles_of (mission_runs p) (few_in p settings))

-- EACH OF THEM
pub each_upset_is_tried : EachUpsetIsTried
unfolding are_from holds_from
each_upset_is_tried p settings listed =
    ap (λ n. counted_latches p * n) (same_each (tried_in p) cycles_of (mission_runs p) (λ k d lt. whole (get_or (mission_runs p) k d) (listed k d lt)))
  where
    whole : (run : Run) → ((cycle : ℕ) → cycle < cycles_of run → Contains p.settings.flips cycle) → tried_in p run ≡ cycles_of run
    whole run each =
        omega (
          arith,
          few_in p settings run,
          all_below (cycles_of run) 0 p.settings.flips (rising p settings) (λ k lt. omega arith) (λ k le lt. each k lt),
        )
