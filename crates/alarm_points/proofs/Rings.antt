-- A ring whose places are taken in turn, and a window that sees one pair more.
use Rattle.std.proofs.Common.{◌≡◌, ◌≢◌, ℕ, zero, suc, ◌+◌, ◌-◌, ◌%◌, ◌/◌, ◌*◌, ◌<◌, ◌≤◌, true, false, not, ◌&&◌, ◌||◌, ◌⊎◌, inl, inr, List, [], ◌∷◌, ◌++◌, length, map, get_or, set, min, bit_or, refl, ap, ap₂, sym, ◌∙◌, arith, get_or-set_other, get_or-set_same}
use Rattle.std.specs.Prelude.{if◌then◌else◌, nat_lt}
use Rattle.std.proofs.lemmas.Bool.{cases_lt}
use Rattle.std.proofs.lemmas.Bool.Decides.{nat_tests}
use Rattle.std.proofs.lemmas.List.{get_or_append_left, get_or_push, length_push}
use Rattle.std.proofs.lemmas.Nat.{mod-mul-add, mod_below, div-add-mod'}
use Rattle.std.proofs.Math.Nat.{add-mod_right}
use Rattle.fm_base.specs.Lists.{some_below}
use Rattle.fm_base.specs.Planes.{bit}
use Rattle.alarm_points.specs.Watch.{IsAfterPairs, IsWatch, Pair, Watch, differs_in, is_settled, pair_at, raised_in}
use Rattle.fm_base.proofs.Bits.{bit_of_or}
use Rattle.alarm_points.proofs.Planes.{bit_of_none}
use Rattle.alarm_points.proofs.Settled.{is_settled-same, settled_due, settled_early, settled_none, some_below-same, some_below-suc, some_below-zero}
use Rattle.std.proofs.Math.Bool.{or-false}

-- the place after another
pub next_in : (last place n : ℕ) → place ≡ n % (last + 1) → place < last → place + 1 ≡ (n + 1) % (last + 1)
next_in last place n e lt =
    let whole : n / (last + 1) * (last + 1) + n % (last + 1) ≡ n = div-add-mod' n (last + 1) in
    let same : n / (last + 1) * (last + 1) + (place + 1) ≡ n + 1 = omega (arith, whole, e) in
    sym (ap (λ m. m % (last + 1)) (sym same) ∙ mod-mul-add (n / (last + 1)) (last + 1) (place + 1) (omega arith))

-- the place after the last
pub next_turn : (last place n : ℕ) → place ≡ n % (last + 1) → last ≤ place → 0 ≡ (n + 1) % (last + 1)
next_turn last place n e ge =
    let whole : n / (last + 1) * (last + 1) + n % (last + 1) ≡ n = div-add-mod' n (last + 1) in
    let below : n % (last + 1) < last + 1 = mod_below n (last + 1) (omega arith) in
    let same : (n / (last + 1) + 1) * (last + 1) + 0 ≡ n + 1 = grind (arith, whole, e, below, ge) in
    sym (ap (λ m. m % (last + 1)) (sym same) ∙ mod-mul-add (n / (last + 1) + 1) (last + 1) 0 (omega arith))

-- two of so many numbers in a row have places of their own
apart : (last t n : ℕ) → t < n → n ≤ t + last → t % (last + 1) ≢ n % (last + 1)
apart last t n lt near = λ e.
    let r : ℕ = t % (last + 1) in
    let q : ℕ = t / (last + 1) in
    let whole : q * (last + 1) + r ≡ t = div-add-mod' t (last + 1) in
    let below : r < last + 1 = mod_below t (last + 1) (omega arith) in
    elim (cases_lt (r + (n - t)) (last + 1)) [
      | inl small ↦
          (let same : q * (last + 1) + (r + (n - t)) ≡ n = omega (arith, whole, lt) in
          let place : r + (n - t) ≡ n % (last + 1) = sym (mod-mul-add q (last + 1) (r + (n - t)) small) ∙ ap (λ m. m % (last + 1)) same in
          omega (arith, place, e, lt))
      | inr large ↦
          (let rest : r + (n - t) - (last + 1) < last + 1 = omega (arith, below, near) in
          let step : (q + 1) * (last + 1) ≡ q * (last + 1) + (last + 1) = grind arith in
          let same : (q + 1) * (last + 1) + (r + (n - t) - (last + 1)) ≡ n = omega (arith, whole, lt, large, step) in
          let place : r + (n - t) - (last + 1) ≡ n % (last + 1) = sym (mod-mul-add (q + 1) (last + 1) (r + (n - t) - (last + 1)) rest) ∙ ap (λ m. m % (last + 1)) same in
          omega (arith, place, e, lt, large, near))
    ]

pub pair_before : (pairs : List Pair) (p : Pair) (t : ℕ) → t < length pairs → pair_at (pairs ++ p ∷ []) t ≡ pair_at pairs t
pair_before pairs p t lt = get_or_append_left pairs (p ∷ []) _ t lt

pub pair_last : (pairs : List Pair) (p : Pair) → pair_at (pairs ++ p ∷ []) (length pairs) ≡ p
pair_last pairs p = get_or_push pairs p _ (length pairs) refl

next_none : (last : ℕ) → 0 ≡ 0 % (last + 1)
next_none last =
    let none : 0 ≡ 0 * (last + 1) + 0 = omega arith in
    sym (ap (λ m. m % (last + 1)) none ∙ mod-mul-add 0 (last + 1) 0 (omega arith))

-- before the first pair
pub after_none : (w : Watch) → w.place ≡ 0 → w.count ≡ 0 → w.differed ≡ 0 → w.raised ≡ 0 → w.settled ≡ 0 → IsAfterPairs [] w
after_none w place count differed raised settled = record {
  place = place ∙ next_none w.ftti;
  count = count ∙ none w.ftti;
  recent = λ t lt near. absurd (omega arith);
  differed = λ k lt. ap (λ n. bit n k) differed ∙ bit_of_none k ∙ sym (some_below-zero (differs_in [] k));
  raised = λ k lt. ap (λ n. bit n k) raised ∙ bit_of_none k ∙ sym (some_below-zero (raised_in [] k));
  settled = λ k lt. ap (λ n. bit n k) settled ∙ bit_of_none k ∙ sym (settled_none w.ftti (differs_in [] k) (raised_in [] k));
}
  where
    none : (m : ℕ) → 0 ≡ min 0 m
    none m = omega arith

-- the plane whose interval ends with this pair
abbrev pub due_of : Watch → (recent : List ℕ) → (place : ℕ) → ℕ
due_of old recent place = if nat_lt old.count old.ftti then 0 else get_or recent place 0

-- what the window is after one pair more
pub record Sees (p : Pair) (old new : Watch) : Type 0 where
  pub ftti : new.ftti ≡ old.ftti
  pub recent : new.recent ≡ set old.recent old.place p.differs
  pub place : (n : ℕ) → old.place ≡ n % (old.ftti + 1) → new.place ≡ (n + 1) % (old.ftti + 1)
  pub count : new.count ≡ min (old.count + 1) old.ftti
  pub differed : new.differed ≡ bit_or old.differed p.differs
  pub raised : new.raised ≡ bit_or old.raised p.raised
  pub settled : (k : ℕ) → k < 64 → bit new.settled k ≡ (bit old.settled k || (bit (due_of old new.recent new.place) k && not (bit new.raised k)))

-- one pair more
pub after_pair : (pairs : List Pair) (p : Pair) (old new : Watch) → IsWatch old → IsAfterPairs pairs old → Sees p old new → IsAfterPairs (pairs ++ p ∷ []) new
after_pair pairs p old new sound after sees = record {
  place = sees.place n after.place ∙ ap₂ (λ m g. m % (g + 1)) (sym size) (sym sees.ftti);
  count = sees.count ∙ counted ∙ ap₂ (λ m g. min m g) (sym size) (sym sees.ftti);
  recent = λ t lt near.
      ap₂ (λ xs g. get_or xs (t % (g + 1)) 0) sees.recent sees.ftti
      ∙ ring t (omega (arith, size, lt)) (omega (arith, size, near, sees.ftti));
  differed = λ k lt.
      ap (λ a. bit a k) sees.differed ∙ bit_of_or old.differed p.differs k
      ∙ ap₂ (λ a b. a || b) (after.differed k lt ∙ sym (differ_before k)) (sym (differ_last k))
      ∙ sym (some_below-suc n (differs_in longer k)) ∙ sym (ap (λ m. some_below m (differs_in longer k)) grown);
  raised = loud;
  settled = λ k lt.
      sees.settled k lt
      ∙ by_cases k lt (cases_lt n old.ftti)
      ∙ ap₂ (λ m g. is_settled g m (differs_in longer k) (raised_in longer k)) (sym grown) (sym sees.ftti);
}
  where
    n : ℕ
    n = length pairs

    longer : List Pair
    longer = pairs ++ p ∷ []

    size : length longer ≡ n + 1
    size = length_push pairs p

    grown : length longer ≡ suc n
    grown = omega (arith, size)

    counted : min (old.count + 1) old.ftti ≡ min (n + 1) old.ftti
    counted = omega (arith, after.count)

    inside : old.place < length old.recent
    inside = omega (arith, sound.recent, sound.place)

    ring : (t : ℕ) → t < n + 1 → n ≤ t + old.ftti → get_or (set old.recent old.place p.differs) (t % (old.ftti + 1)) 0 ≡ (pair_at longer t).differs
    ring t lt near = elim (cases_lt t n) [
      | inl before ↦
          (let other : t % (old.ftti + 1) ≢ old.place = λ e. apart old.ftti t n before near (e ∙ after.place) in
          get_or-set_other old.recent old.place (t % (old.ftti + 1)) p.differs 0 other ∙ after.recent t before near
          ∙ sym (ap (λ (q : Pair). q.differs) (pair_before pairs p t before)))
      | inr late ↦
          (let same : t ≡ n = omega (arith, lt, late) in
          let own : t % (old.ftti + 1) ≡ old.place = ap (λ m. m % (old.ftti + 1)) same ∙ sym after.place in
          ap (λ i. get_or (set old.recent old.place p.differs) i 0) own
          ∙ get_or-set_same old.recent old.place p.differs 0 inside
          ∙ sym (ap (λ m. (pair_at longer m).differs) same ∙ ap (λ (q : Pair). q.differs) (pair_last pairs p)))
    ]

    differ_same : (k t : ℕ) → t < n → differs_in longer k t ≡ differs_in pairs k t
    differ_same k t lt = ap (λ (q : Pair). bit q.differs k) (pair_before pairs p t lt)

    raise_same : (k t : ℕ) → t < n → raised_in longer k t ≡ raised_in pairs k t
    raise_same k t lt = ap (λ (q : Pair). bit q.raised k) (pair_before pairs p t lt)

    differ_before : (k : ℕ) → some_below n (differs_in longer k) ≡ some_below n (differs_in pairs k)
    differ_before k = some_below-same n (differs_in longer k) (differs_in pairs k) (differ_same k)

    differ_last : (k : ℕ) → differs_in longer k n ≡ bit p.differs k
    differ_last k = ap (λ (q : Pair). bit q.differs k) (pair_last pairs p)

    loud : (k : ℕ) → k < 64 → bit new.raised k ≡ some_below (length longer) (raised_in longer k)
    loud k lt =
        ap (λ a. bit a k) sees.raised ∙ bit_of_or old.raised p.raised k
        ∙ ap₂ (λ a b. a || b)
        (after.raised k lt ∙ sym (some_below-same n (raised_in longer k) (raised_in pairs k) (raise_same k)))
        (sym (ap (λ (q : Pair). bit q.raised k) (pair_last pairs p)))
        ∙ sym (some_below-suc n (raised_in longer k)) ∙ sym (ap (λ m. some_below m (raised_in longer k)) grown)

    -- what is settled so far is so in the longer run too
    settled_before : (k : ℕ) → k < 64 → bit old.settled k ≡ is_settled old.ftti n (differs_in longer k) (raised_in longer k)
    settled_before k lt =
        after.settled k lt
        ∙ sym (is_settled-same old.ftti n (differs_in longer k) (differs_in pairs k) (raised_in longer k) (raised_in pairs k) (differ_same k) (raise_same k))

    due : ℕ
    due = due_of old new.recent new.place

    due_none : n < old.ftti → due ≡ 0
    due_none early =
        let few : old.count < old.ftti = omega (arith, after.count, early) in
        let test : nat_lt old.count old.ftti ≡ true = grind (arith, nat_tests) in
        ap (λ b. if b then 0 else get_or new.recent new.place 0) test

    due_one : old.ftti ≤ n → due ≡ (pair_at longer (n - old.ftti)).differs
    due_one late =
        let many : old.ftti ≤ old.count = omega (arith, after.count, late) in
        let test : nat_lt old.count old.ftti ≡ false = grind (arith, nat_tests) in
        let turn : n - old.ftti + (old.ftti + 1) ≡ n + 1 = omega (arith, late) in
        ap (λ b. if b then 0 else get_or new.recent new.place 0) test
        ∙ ap₂ (λ xs i. get_or xs i 0) sees.recent
        (sees.place n after.place ∙ ap (λ m. m % (old.ftti + 1)) (sym turn) ∙ add-mod_right (n - old.ftti) (old.ftti + 1))
        ∙ ring (n - old.ftti) (omega arith) (omega (arith, late))

    by_cases : (k : ℕ) → k < 64 → (n < old.ftti) ⊎ (old.ftti ≤ n)
        → (bit old.settled k || (bit due k && not (bit new.raised k))) ≡ is_settled old.ftti (suc n) (differs_in longer k) (raised_in longer k)
    by_cases k lt (inl early) =
        ap₂ (λ a b. a || (b && not (bit new.raised k))) (settled_before k lt) (ap (λ m. bit m k) (due_none early) ∙ bit_of_none k)
        ∙ or-false _ ∙ sym (settled_early old.ftti n (differs_in longer k) (raised_in longer k) early)
    by_cases k lt (inr late) =
        ap₂ (λ a b. a || (b && not (bit new.raised k))) (settled_before k lt) (ap (λ m. bit m k) (due_one late))
        ∙ ap (λ b. is_settled old.ftti n (differs_in longer k) (raised_in longer k) || (differs_in longer k (n - old.ftti) && not b))
        (loud k lt ∙ ap (λ m. some_below m (raised_in longer k)) grown)
        ∙ sym (settled_due old.ftti n (differs_in longer k) (raised_in longer k) late)

-- a list keeps what a function says of its items where one is replaced by another of which it says the same
pub map_set : {X : Type 0} (f : X → ℕ) (xs : List X) (i : ℕ) (y d : X) → i < length xs → f y ≡ f (get_or xs i d) → map f (set xs i y) ≡ map f xs
map_set f [] i y d lt e = absurd (omega arith)
map_set f (x ∷ xs) zero y d lt e = ap (λ m. m ∷ map f xs) e
map_set f (x ∷ xs) (suc i) y d lt e = ap (λ ms. f x ∷ ms) (map_set f xs i y d (omega arith) e)
