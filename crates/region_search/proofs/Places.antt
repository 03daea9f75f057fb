-- Places of nets in frame after frame.
use Rattle.std.proofs.Common.{◌≡◌, ◌≢◌, inl, inr, ℕ, suc, ◌+◌, ◌*◌, ◌^◌, ◌<◌, ◌≤◌, Bool, true, false, ◌&&◌, List, length, get_or, set, refl, ap, ap₂, sym, subst, ◌∙◌, arith, get_or-set_same, get_or-set_other}
use Rattle.std.specs.Prelude.{◌==◌, nat_lt, replicate}
use Rattle.std.proofs.Math.Nat.{mul-le-mul_left, mul-le-mul_right, suc-mul}
use Rattle.std.proofs.lemmas.Bool.{cases_Bool, cases_lt, eq-eqb, eqb-true, le-ltb, lt-ltb}
use Rattle.std.proofs.lemmas.List.{get_or-replicate}
use Rattle.fm_base.proofs.Tests.{and_both, both_true}
use Rattle.coverage_claim.specs.Rules.{only}
use Rattle.pair_sets.specs.Choice.{set_at}
use Rattle.pair_sets.specs.Pairs.{has}
use Rattle.pair_sets.specs.declared.pairs.PairSet.{PairSet}
use Rattle.region_search.specs.Settled.{sets_in}
use Rattle.region_search.proofs.Counting.{IsBoth, read_is}

-- a net of a frame stands inside
pub inside : (nets frames frame net : ℕ) → frame < frames → net < nets → frame * nets + net < frames * nets
inside nets frames frame net lt less =
    let up : suc frame * nets ≤ frames * nets = mul-le-mul_right nets (omega (arith, lt)) in
    omega (arith, up, suc-mul frame nets, less)

-- a net before another one's frame stands before it
before : (nets i n j m : ℕ) → n < nets → i < j → i * nets + n < j * nets + m
before nets i n j m less lt = let here = inside nets j i n lt less in omega (arith, here)

-- two nets in two frames stand at one place only if they are the same
pub one_place : (nets i n j m : ℕ) → n < nets → m < nets → i * nets + n ≡ j * nets + m → (i ≡ j) × (n ≡ m)
one_place nets i n j m less fewer same =
    elim (cases_lt i j) as (λ _. (i ≡ j) × (n ≡ m)) [
      | inl early ↦ (let apart = before nets i n j m less early in absurd (omega (arith, apart, same)))
      | inr from ↦ elim (cases_lt j i) as (λ _. (i ≡ j) × (n ≡ m)) [
        | inl late ↦ (let apart = before nets j m i n fewer late in absurd (omega (arith, apart, same)))
        | inr to ↦ (let e : i ≡ j = omega arith in (e, rest e))
      ]
    ]
  where
    rest : i ≡ j → n ≡ m
    rest e = let product : i * nets ≡ j * nets = ap (λ k. k * nets) e in omega (arith, product, same)

-- WHAT A CUT LEAVES
pub cut_leaves : (nets frames : ℕ) (items : List PairSet) (frame net : ℕ) (to left : PairSet) → length items ≡ frames * nets → frame < frames → net < nets
    → ((a b : Bool) → has left a b ≡ (has (set_at items (frame * nets + net)) a b && has to a b))
    → (i n : ℕ) (a b : Bool) → sets_in nets (set items (frame * nets + net) left) i n a b ≡ only (sets_in nets items) frame net (has to) i n a b
cut_leaves nets frames items frame net to left size lt less is i n a b =
    elim (cases_lt n nets) as (λ _. sets_in nets (set items (frame * nets + net) left) i n a b ≡ only (sets_in nets items) frame net (has to) i n a b) [
      | inr outside ↦ (
          let out : nat_lt n nets ≡ false = le-ltb n nets outside in
          let not_it : (i == frame && n == net) ≡ false = elsewhere (λ e f. absurd (omega (arith, f, less, outside))) in
          rw (out, not_it) refl)
      | inl fewer ↦ (
          let there : nat_lt n nets ≡ true = lt-ltb n nets fewer in
          elim (cases_Bool (i == frame && n == net)) as (λ _. sets_in nets (set items (frame * nets + net) left) i n a b ≡ only (sets_in nets items) frame net (has to) i n a b) [
            | inl it ↦ (
                let parts = and_both (i == frame) (n == net) it in
                let e : i ≡ frame = eqb-true i frame parts.0 in
                let f : n ≡ net = eqb-true n net parts.1 in
                let place : i * nets + n ≡ frame * nets + net = ap₂ (λ j m. j * nets + m) e f in
                rw (there, it, place) (ap (λ (p : PairSet). has p a b) (get_or-set_same items (frame * nets + net) left (record { bits = 0 }) (within place)) ∙ is a b))
            | inr other ↦ (
                let apart : i * nets + n ≢ frame * nets + net = λ same. (let one = one_place nets i n frame net fewer less same in differ other one.0 one.1) in
                rw (there, other) (ap (λ (p : PairSet). has p a b) (get_or-set_other items (frame * nets + net) (i * nets + n) left (record { bits = 0 }) apart) ∙ sym (and_true _)))
          ])
    ]
  where
    within : i * nets + n ≡ frame * nets + net → frame * nets + net < length items
    within place = let here = inside nets frames frame net lt less in omega (arith, here, size)

    and_true : (x : Bool) → (x && true) ≡ x
    and_true true = refl
    and_true false = refl

    elsewhere : (i ≡ frame → n ≡ net → ⊥) → (i == frame && n == net) ≡ false
    elsewhere none = elim (cases_Bool (i == frame && n == net)) as (λ _. (i == frame && n == net) ≡ false) [
      | inr e ↦ e
      | inl e ↦ (let parts = and_both (i == frame) (n == net) e in absurd (none (eqb-true i frame parts.0) (eqb-true n net parts.1)))
    ]

    differ : (i == frame && n == net) ≡ false → i ≡ frame → n ≡ net → ⊥
    differ other e f = (let it : (i == frame && n == net) ≡ true = both_true (i == frame) (n == net) (eq-eqb i frame e) (eq-eqb n net f) in let clash : true ≡ false = sym it ∙ other in absurd (cc))

-- and where no pair goes
pub stays_leaves : (nets : ℕ) (items : List PairSet) (frame net : ℕ) (to : PairSet) → net < nets
    → ((a b : Bool) → has (set_at items (frame * nets + net)) a b ≡ true → has to a b ≡ true)
    → (i n : ℕ) (a b : Bool) → sets_in nets items i n a b ≡ only (sets_in nets items) frame net (has to) i n a b
stays_leaves nets items frame net to less inside_to i n a b =
    elim (cases_Bool (i == frame && n == net)) as (λ _. sets_in nets items i n a b ≡ only (sets_in nets items) frame net (has to) i n a b) [
      | inr other ↦ rw other (sym (and_true (sets_in nets items i n a b)))
      | inl it ↦ (
          let parts = and_both (i == frame) (n == net) it in
          let e : i ≡ frame = eqb-true i frame parts.0 in
          let f : n ≡ net = eqb-true n net parts.1 in
          let there : nat_lt n nets ≡ true = lt-ltb n nets (omega (arith, less, f)) in
          rw it (within (sets_in nets items i n a b) (has to a b) (λ h. inside_to a b (here there e f ∙ h))))
    ]
  where
    and_true : (x : Bool) → (x && true) ≡ x
    and_true true = refl
    and_true false = refl

    within : (x y : Bool) → (x ≡ true → y ≡ true) → x ≡ (x && y)
    within true y h = sym (h refl)
    within false y h = refl

    here : nat_lt n nets ≡ true → i ≡ frame → n ≡ net → has (set_at items (frame * nets + net)) a b ≡ sets_in nets items i n a b
    here there e f = ap₂ (λ j m. has (set_at items (j * nets + m)) a b) (sym e) (sym f) ∙ rw there refl

-- so many nets in so many frames are few
pub few_places : (nets frames : ℕ) → nets ≤ 2 ^ 18 → frames ≤ 2 ^ 16 → frames * nets < 2 ^ 64
few_places nets frames less fewer =
    let first : frames * nets ≤ frames * 2 ^ 18 = mul-le-mul_left frames less in
    let last : frames * 2 ^ 18 ≤ 2 ^ 16 * 2 ^ 18 = mul-le-mul_right (2 ^ 18) fewer in
    omega (arith, first, last)

pub product_small : (nets frames frame net : ℕ) → frame < frames → net < nets → frames * nets < 2 ^ 64 → frame * nets < 2 ^ 64
product_small nets frames frame net lt less few = let here = inside nets frames frame net lt less in omega (arith, here, few)

-- the cut of what was read
pub cut_sets : (nets frames : ℕ) (items : List PairSet) (frame net at : ℕ) (to left old : PairSet) → length items ≡ frames * nets → frame < frames → net < nets
    → at ≡ frame * nets + net → old ≡ get_or items at old → IsBoth old to left
    → (i n : ℕ) (a b : Bool) → sets_in nets (set items at left) i n a b ≡ only (sets_in nets items) frame net (has to) i n a b
cut_sets nets frames items frame net at to left old size lt less place read is i n a b =
    let stands = inside nets frames frame net lt less in
    let here : old ≡ set_at items (frame * nets + net) =
    read_is items at old (omega (arith, stands, place, size)) read ∙ ap (set_at items) place in
    subst (λ k. sets_in nets (set items k left) i n a b ≡ only (sets_in nets items) frame net (has to) i n a b) (sym place)
    (cut_leaves nets frames items frame net to left size lt less (subst (λ p. IsBoth p to left) here is) i n a b)

all_pairs : (a b : Bool) → has (record { bits = 15 }) a b ≡ true
all_pairs true true = refl
all_pairs true false = refl
all_pairs false true = refl
all_pairs false false = refl

-- at first each net may have all pairs
pub all_sets : (nets frames : ℕ) (items : List PairSet) → items ≡ replicate (frames * nets) (record { bits = 15 }) → (frame net : ℕ) (a b : Bool) → frame < frames
    → sets_in nets items frame net a b ≡ true
all_sets nets frames items is frame net a b lt = elim (cases_lt net nets) as (λ _. sets_in nets items frame net a b ≡ true) [
  | inr outside ↦ rw (le-ltb net nets outside) refl
  | inl less ↦ (
      let stands = inside nets frames frame net lt less in
      let here : set_at items (frame * nets + net) ≡ record { bits = 15 } =
      ap (λ xs. set_at xs (frame * nets + net)) is ∙ get_or-replicate (frames * nets) (frame * nets + net) (record { bits = 15 }) (record { bits = 0 }) stands in
      rw (lt-ltb net nets less) (ap (λ (p : PairSet). has p a b) here ∙ all_pairs a b))
]
