-- A table of two nets: all choices at once.
use Rattle.std.proofs.Common.{◌≡◌, ◌≢◌, inl, inr, ℕ, zero, suc, ◌<◌, ◌≤◌, Bool, true, false, ◌&&◌, List, [], ◌∷◌, length, set, refl, ap, ap₂, sym, ◌∙◌, arith, length-set}
use Rattle.std.specs.Prelude.{if◌then◌else◌, ◌↔◌}
use Rattle.circuit.specs.Value.{bit_at}
use Rattle.fm_base.specs.Planes.{bit}
use Rattle.fm_base.proofs.Tests.{and_both, both_true, or_cases, or_second}
use Rattle.coverage_claim.specs.Region.{may_show}
use Rattle.coverage_claim.specs.Stretch.{Pairs}
use Rattle.coverage_claim.specs.declared.parts.Site.{Site}
use Rattle.pair_sets.specs.Choice.{Agree, AgreesAt, AgreesOwn, AreChosen, IsLeft, set_at, truth_gives}
use Rattle.pair_sets.specs.Pairs.{driving, has, shown}
use Rattle.pair_sets.specs.Steps.{IsPairIn, digit_behind}
use Rattle.pair_sets.specs.declared.pairs.PairSet.{PairSet}
use Rattle.pair_sets.specs.declared.values.Values.{Values}
use Rattle.pair_sets.proofs.Choices.{AreThose, agree_end, at_has, chosen_more, half_start, half_step, lift, lift_at, whole_left}
use Rattle.pair_sets.proofs.Sets.{driving_says}

-- ---- what a net may show

shown_says : (site : Site) (pairs : Pairs) (golden value : Bool) → shown site pairs golden value ≡ true
    → (own : Bool) × (pairs golden own ≡ true) × (may_show site own value ≡ true)
shown_says site pairs golden value e = elim (or_cases (pairs golden false && may_show site false value) (pairs golden true && may_show site true value) e)
    as (λ _. (own : Bool) × (pairs golden own ≡ true) × (may_show site own value ≡ true)) [
      | inl none ↦ (let parts = and_both (pairs golden false) (may_show site false value) none in (false, parts.0, parts.1))
      | inr one ↦ (let parts = and_both (pairs golden true) (may_show site true value) one in (true, parts.0, parts.1))
    ]

shown_from : (site : Site) (pairs : Pairs) (golden own value : Bool) → pairs golden own ≡ true → may_show site own value ≡ true → shown site pairs golden value ≡ true
shown_from site pairs golden false value has may = rw (both_true (pairs golden false) (may_show site false value) has may) refl
shown_from site pairs golden true value has may =
    or_second (pairs golden false && may_show site false value) (pairs golden true && may_show site true value) (both_true (pairs golden true) (may_show site true value) has may)

-- ---- each choice has a bit

record IsPlace (g f h e : Bool) : Type 0 where
  place : ℕ
  low : place < 64
  first_golden : bit 43690 place ≡ g
  first_faulty : bit 52428 place ≡ f
  second_golden : bit 61680 place ≡ h
  second_faulty : bit 65280 place ≡ e

place_of : (g f h e : Bool) → IsPlace g f h e
place_of false false false false = record { place = 0; low = omega arith; first_golden = refl; first_faulty = refl; second_golden = refl; second_faulty = refl }
place_of true false false false = record { place = 1; low = omega arith; first_golden = refl; first_faulty = refl; second_golden = refl; second_faulty = refl }
place_of false true false false = record { place = 2; low = omega arith; first_golden = refl; first_faulty = refl; second_golden = refl; second_faulty = refl }
place_of true true false false = record { place = 3; low = omega arith; first_golden = refl; first_faulty = refl; second_golden = refl; second_faulty = refl }
place_of false false true false = record { place = 4; low = omega arith; first_golden = refl; first_faulty = refl; second_golden = refl; second_faulty = refl }
place_of true false true false = record { place = 5; low = omega arith; first_golden = refl; first_faulty = refl; second_golden = refl; second_faulty = refl }
place_of false true true false = record { place = 6; low = omega arith; first_golden = refl; first_faulty = refl; second_golden = refl; second_faulty = refl }
place_of true true true false = record { place = 7; low = omega arith; first_golden = refl; first_faulty = refl; second_golden = refl; second_faulty = refl }
place_of false false false true = record { place = 8; low = omega arith; first_golden = refl; first_faulty = refl; second_golden = refl; second_faulty = refl }
place_of true false false true = record { place = 9; low = omega arith; first_golden = refl; first_faulty = refl; second_golden = refl; second_faulty = refl }
place_of false true false true = record { place = 10; low = omega arith; first_golden = refl; first_faulty = refl; second_golden = refl; second_faulty = refl }
place_of true true false true = record { place = 11; low = omega arith; first_golden = refl; first_faulty = refl; second_golden = refl; second_faulty = refl }
place_of false false true true = record { place = 12; low = omega arith; first_golden = refl; first_faulty = refl; second_golden = refl; second_faulty = refl }
place_of true false true true = record { place = 13; low = omega arith; first_golden = refl; first_faulty = refl; second_golden = refl; second_faulty = refl }
place_of false true true true = record { place = 14; low = omega arith; first_golden = refl; first_faulty = refl; second_golden = refl; second_faulty = refl }
place_of true true true true = record { place = 15; low = omega arith; first_golden = refl; first_faulty = refl; second_golden = refl; second_faulty = refl }

-- ---- what is left

-- the own net has the pairs of choices that agree
abbrev AreOwn : ℕ → Site → List PairSet → PairSet → PairSet → Type 0
AreOwn truth site reads own own_left = (a b : Bool) → (has own_left a b ≡ true) ↔ AgreesOwn truth site reads own a b

module _ (truth : ℕ) (site : Site) (reads : List PairSet) (own : PairSet) (i : ℕ) (new : PairSet) (lt : i < length reads) (are : AreThose truth site reads own i new) where
  -- no choice is new where one of the sets has those of choices that agree
  lower : (golden faulty : List Bool) (a b : Bool) → Agree truth site (set reads i new) own golden faulty a b → Agree truth site reads own golden faulty a b
  lower golden faulty a b agree = record {
    chosen = chosen_more reads golden faulty i new (λ x y h. at_has truth site reads own i x y lt ((are x y).0 h)) agree.chosen;
    has_own = agree.has_own;
    golden_is = agree.golden_is;
    faulty_may = agree.faulty_may;
  }

  -- so another one has still those
  still_those : (j : ℕ) (other : PairSet) → AreThose truth site reads own j other → AreThose truth site (set reads i new) own j other
  still_those j other those a b = (
    λ h. lift_at truth site reads own i new are j a b ((those a b).0 h),
    λ at. (those a b).1 (record {
      golden = at.golden;
      faulty = at.faulty;
      own_golden = at.own_golden;
      own_faulty = at.own_faulty;
      agree = lower at.golden at.faulty at.own_golden at.own_faulty at.agree;
      golden_at = at.golden_at;
      faulty_at = at.faulty_at;
    }),
  )

  -- and the own net too
  still_own : (own_left : PairSet) → AreOwn truth site reads own own_left → AreOwn truth site (set reads i new) own own_left
  still_own own_left owns a b = (
    λ h. (let at = (owns a b).0 h in record { golden = at.golden; faulty = at.faulty; agree = lift truth site reads own i new are at.golden at.faulty a b at.agree }),
    λ at. (owns a b).1 (record { golden = at.golden; faulty = at.faulty; agree = lower at.golden at.faulty a b at.agree }),
  )

-- two sets that have those of choices that agree, and the own net last
two_steps : (truth : ℕ) (site : Site) (reads : List PairSet) (own x y own_left : PairSet) → length reads ≡ 2 → AreThose truth site reads own 0 x
    → AreThose truth site reads own 1 y → AreOwn truth site reads own own_left → IsLeft truth site reads own (set (set reads 0 x) 1 y) own_left
two_steps truth site reads own x y own_left two xs ys owns =
    let zero_lt : 0 < length reads = omega (arith, two) in
    let one_lt : 1 < length (set reads 0 x) = omega (arith, two, length-set reads 0 x) in
    let last : length (set (set reads 0 x) 1 y) ≤ 2 = omega (arith, two, length-set reads 0 x, length-set (set reads 0 x) 1 y) in
    let ys2 = still_those truth site reads own 0 x zero_lt xs 1 y ys in
    whole_left truth site reads own (set (set reads 0 x) 1 y) 2 own_left last
    (half_step truth site reads own (set reads 0 x) 1 y one_lt ys2 (half_step truth site reads own reads 0 x zero_lt xs (half_start truth site reads own)))
    (still_own truth site (set reads 0 x) own 1 y one_lt ys2 own_left (still_own truth site reads own 0 x zero_lt xs own_left owns))

-- ---- choices as the bits of a word

-- what the table gives in each choice
abbrev pub IsGiven : (truth first second given : ℕ) → Type 0
IsGiven truth one two given = (k : ℕ) → k < 64 → bit given k ≡ bit truth (digit_behind (bit two k) (digit_behind (bit one k) 0))

-- the choices in which a net has a pair of a set
abbrev pub AreChoices : Values → PairSet → ℕ → Type 0
AreChoices values pairs choices = (k : ℕ) → k < 64 → bit choices k ≡ has pairs (bit values.golden k) (bit values.faulty k)

-- the pairs that a net has in some of these choices
abbrev pub ArePairs : ℕ → Values → PairSet → Type 0
ArePairs choices values pairs = (a b : Bool) → (has pairs a b ≡ true) ↔ IsPairIn choices values a b

module _ (truth : ℕ) (site : Site) (x y own drive : PairSet) (are : (g f : Bool) → has drive g f ≡ driving site (has own) g f) (values : Values)
    (golden_is : IsGiven truth 43690 61680 values.golden) (faulty_is : IsGiven truth 52428 65280 values.faulty)
    (choices : ℕ) (all : (k : ℕ) → k < 64 → bit choices k ≡ ((has x (bit 43690 k) (bit 52428 k) && has y (bit 61680 k) (bit 65280 k)) && has drive (bit values.golden k) (bit values.faulty k))) where
  abbrev reads : List PairSet
  reads = x ∷ y ∷ []

  -- the lists of a choice
  abbrev goldens : ℕ → List Bool
  goldens k = bit 43690 k ∷ bit 61680 k ∷ []

  abbrev faulties : ℕ → List Bool
  faulties k = bit 52428 k ∷ bit 65280 k ∷ []

  parts : (k : ℕ) → k < 64 → bit choices k ≡ true → (AreChosen reads (goldens k) (faulties k)) × (has drive (bit values.golden k) (bit values.faulty k) ≡ true)
  parts k low e =
      let two = and_both (has x (bit 43690 k) (bit 52428 k) && has y (bit 61680 k) (bit 65280 k)) (has drive (bit values.golden k) (bit values.faulty k)) (sym (all k low) ∙ e) in
      let one = and_both (has x (bit 43690 k) (bit 52428 k)) (has y (bit 61680 k) (bit 65280 k)) two.0 in
      ((one.0, (one.1, tt)), two.1)

  -- a choice of the word agrees with the table, where its own net shows what it may
  agrees : (k : ℕ) → k < 64 → bit choices k ≡ true → (b : Bool) → has own (bit values.golden k) b ≡ true → may_show site (bit values.faulty k) b ≡ true
      → Agree truth site reads own (goldens k) (faulties k) (bit values.golden k) b
  agrees k low e b owns may = record {
    chosen = (parts k low e).0;
    has_own = owns;
    golden_is = golden_is k low;
    faulty_may = ap (λ v. may_show site v b) (sym (faulty_is k low)) ∙ may;
  }

  -- the pair of its own net
  record Own (k : ℕ) : Type 0 where
    value : Bool
    owns : has own (bit values.golden k) value ≡ true
    may : may_show site (bit values.faulty k) value ≡ true

  own_of : (k : ℕ) → k < 64 → bit choices k ≡ true → Own k
  own_of k low e =
      let says = driving_says site (has own) (bit values.golden k) (bit values.faulty k) (sym (are (bit values.golden k) (bit values.faulty k)) ∙ (parts k low e).1) in
      record { value = says.0; owns = says.1; may = says.2 }

  -- and each choice that agrees is one of the word
  record HasPlace (golden faulty : List Bool) : Type 0 where
    place : ℕ
    low : place < 64
    among : bit choices place ≡ true
    first_golden : bit 43690 place ≡ bit_at golden 0
    first_faulty : bit 52428 place ≡ bit_at faulty 0
    second_golden : bit 61680 place ≡ bit_at golden 1
    second_faulty : bit 65280 place ≡ bit_at faulty 1
    golden_gives : bit values.golden place ≡ truth_gives truth golden
    faulty_gives : bit values.faulty place ≡ truth_gives truth faulty

  has_place : (golden faulty : List Bool) (a b : Bool) → Agree truth site reads own golden faulty a b → HasPlace golden faulty
  has_place [] [] a b agree = absurd agree.chosen
  has_place [] (f ∷ fs) a b agree = absurd agree.chosen
  has_place (g ∷ gs) [] a b agree = absurd agree.chosen
  has_place (g ∷ []) (f ∷ []) a b agree = absurd agree.chosen.1
  has_place (g ∷ []) (f ∷ e ∷ fs) a b agree = absurd agree.chosen.1
  has_place (g ∷ h ∷ gs) (f ∷ []) a b agree = absurd agree.chosen.1
  has_place (g ∷ h ∷ []) (f ∷ e ∷ i ∷ fs) a b agree = absurd agree.chosen.1.1
  has_place (g ∷ h ∷ i ∷ gs) (f ∷ e ∷ []) a b agree = absurd agree.chosen.1.1
  has_place (g ∷ h ∷ i ∷ gs) (f ∷ e ∷ j ∷ fs) a b agree = absurd agree.chosen.1.1
  has_place (g ∷ h ∷ []) (f ∷ e ∷ []) a b agree =
      let p = place_of g f h e in
      let golden : bit values.golden p.place ≡ truth_gives truth (g ∷ h ∷ []) =
      golden_is p.place p.low ∙ ap₂ (λ u v. bit truth (digit_behind v (digit_behind u 0))) p.first_golden p.second_golden in
      let faulty : bit values.faulty p.place ≡ truth_gives truth (f ∷ e ∷ []) =
      faulty_is p.place p.low ∙ ap₂ (λ u v. bit truth (digit_behind v (digit_behind u 0))) p.first_faulty p.second_faulty in
      record {
        place = p.place;
        low = p.low;
        among = all p.place p.low
            ∙ both_true _ _
            (both_true _ _ (ap₂ (has x) p.first_golden p.first_faulty ∙ agree.chosen.0) (ap₂ (has y) p.second_golden p.second_faulty ∙ agree.chosen.1.0))
            (ap₂ (has drive) golden faulty ∙ agree_end truth site reads own drive are (g ∷ h ∷ []) (f ∷ e ∷ []) a b agree);
        first_golden = p.first_golden;
        first_faulty = p.first_faulty;
        second_golden = p.second_golden;
        second_faulty = p.second_faulty;
        golden_gives = golden;
        faulty_gives = faulty;
      }

  -- so the pairs of the choices of the word are those of choices that agree
  first_those : (new : PairSet) → ArePairs choices (record { golden = 43690; faulty = 52428 }) new → AreThose truth site reads own 0 new
  first_those new are_pairs a b = (
    λ h. (let it = (are_pairs a b).0 h in
        let o = own_of it.choice it.low it.among in
        record {
          golden = goldens it.choice;
          faulty = faulties it.choice;
          own_golden = bit values.golden it.choice;
          own_faulty = o.value;
          agree = agrees it.choice it.low it.among o.value o.owns o.may;
          golden_at = it.golden_is;
          faulty_at = it.faulty_is;
        }),
    λ at. (let p = has_place at.golden at.faulty at.own_golden at.own_faulty at.agree in
        (are_pairs a b).1 (record { choice = p.place; low = p.low; among = p.among; golden_is = p.first_golden ∙ at.golden_at; faulty_is = p.first_faulty ∙ at.faulty_at })),
  )

  second_those : (new : PairSet) → ArePairs choices (record { golden = 61680; faulty = 65280 }) new → AreThose truth site reads own 1 new
  second_those new are_pairs a b = (
    λ h. (let it = (are_pairs a b).0 h in
        let o = own_of it.choice it.low it.among in
        record {
          golden = goldens it.choice;
          faulty = faulties it.choice;
          own_golden = bit values.golden it.choice;
          own_faulty = o.value;
          agree = agrees it.choice it.low it.among o.value o.owns o.may;
          golden_at = it.golden_is;
          faulty_at = it.faulty_is;
        }),
    λ at. (let p = has_place at.golden at.faulty at.own_golden at.own_faulty at.agree in
        (are_pairs a b).1 (record { choice = p.place; low = p.low; among = p.among; golden_is = p.second_golden ∙ at.golden_at; faulty_is = p.second_faulty ∙ at.faulty_at })),
  )

  own_those : (through own_left : PairSet) → ArePairs choices values through → ((a b : Bool) → has own_left a b ≡ (shown site (has through) a b && has own a b))
      → AreOwn truth site reads own own_left
  own_those through own_left are_pairs is a b = (
    λ h. (let both = and_both (shown site (has through) a b) (has own a b) (sym (is a b) ∙ h) in
        let says = shown_says site (has through) a b both.0 in
        let it = (are_pairs a says.0).0 says.1 in
        record {
          golden = goldens it.choice;
          faulty = faulties it.choice;
          agree = record {
            chosen = (parts it.choice it.low it.among).0;
            has_own = both.1;
            golden_is = sym it.golden_is ∙ golden_is it.choice it.low;
            faulty_may = ap (λ v. may_show site v b) (sym (faulty_is it.choice it.low) ∙ it.faulty_is) ∙ says.2;
          };
        }),
    λ at. (let p = has_place at.golden at.faulty a b at.agree in
        let there : has through a (truth_gives truth at.faulty) ≡ true =
        (are_pairs a (truth_gives truth at.faulty)).1
        (record { choice = p.place; low = p.low; among = p.among; golden_is = p.golden_gives ∙ sym at.agree.golden_is; faulty_is = p.faulty_gives }) in
        is a b
        ∙ both_true (shown site (has through) a b) (has own a b) (shown_from site (has through) a (truth_gives truth at.faulty) b there at.agree.faulty_may) at.agree.has_own),
  )

-- A TABLE OF TWO NETS leaves the pairs of the choices that are among those of both nets and of what drives its own
pub two_left : (truth : ℕ) (site : Site) (reads : List PairSet) (own drive : PairSet) → length reads ≡ 2 → ((g f : Bool) → has drive g f ≡ driving site (has own) g f)
    → (values : Values) → IsGiven truth 43690 61680 values.golden → IsGiven truth 52428 65280 values.faulty
    → (choices : ℕ) → ((k : ℕ) → k < 64 → bit choices k
    ≡ ((has (set_at reads 0) (bit 43690 k) (bit 52428 k) && has (set_at reads 1) (bit 61680 k) (bit 65280 k)) && has drive (bit values.golden k) (bit values.faulty k)))
    → (x y through own_left : PairSet) → ArePairs choices (record { golden = 43690; faulty = 52428 }) x → ArePairs choices (record { golden = 61680; faulty = 65280 }) y
    → ArePairs choices values through → ((a b : Bool) → has own_left a b ≡ (shown site (has through) a b && has own a b))
    → IsLeft truth site reads own (set (set reads 0 x) 1 y) own_left
two_left truth site [] own drive two are values golden_is faulty_is choices all x y through own_left xs ys through_is own_is = absurd (omega (arith, two))
two_left truth site (one ∷ []) own drive two are values golden_is faulty_is choices all x y through own_left xs ys through_is own_is = absurd (omega (arith, two))
two_left truth site (one ∷ other ∷ third ∷ rest) own drive two are values golden_is faulty_is choices all x y through own_left xs ys through_is own_is =
    absurd (omega (arith, two))
two_left truth site (one ∷ other ∷ []) own drive two are values golden_is faulty_is choices all x y through own_left xs ys through_is own_is =
    two_steps truth site (one ∷ other ∷ []) own x y own_left two
    (first_those truth site one other own drive are values golden_is faulty_is choices all x xs)
    (second_those truth site one other own drive are values golden_is faulty_is choices all y ys)
    (own_those truth site one other own drive are values golden_is faulty_is choices all through own_left through_is own_is)
