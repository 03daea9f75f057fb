-- Choices that agree with a table.
use Rattle.std.proofs.Common.{◌≡◌, ◌≢◌, inl, inr, ℕ, zero, suc, ◌+◌, ◌*◌, ◌<◌, ◌≤◌, Bool, true, false, ◌&&◌, ◌||◌, List, [], ◌∷◌, length, set, refl, ap, ap₂, sym, ◌∙◌, arith, length-set, get_or-set_same, get_or-set_other}
use Rattle.std.specs.Prelude.{if◌then◌else◌, ◌↔◌}
use Rattle.std.proofs.lemmas.Bool.{cases_eq}
use Rattle.circuit.specs.Value.{bit_at}
use Rattle.fm_base.specs.Lists.{same_bit}
use Rattle.fm_base.specs.Planes.{bit}
use Rattle.fm_base.proofs.Tests.{and_both, both_true, or_cases, or_second, same_bit_true}
use Rattle.coverage_claim.specs.Region.{may_show}
use Rattle.coverage_claim.specs.Rules.{this_pair}
use Rattle.coverage_claim.specs.declared.parts.Site.{Site}
use Rattle.pair_sets.specs.Choice.{Agree, AgreesAt, AgreesOwn, AreChosen, IsLeft, row_from, set_at, truth_gives}
use Rattle.pair_sets.specs.Pairs.{driving, has}
use Rattle.pair_sets.specs.Steps.{IsHalfLeft, some_end}
use Rattle.pair_sets.specs.declared.pairs.PairSet.{PairSet}
use Rattle.pair_sets.proofs.Sets.{driving_from, driving_says}

-- ---- the end of a choice

-- a choice of a pair out of each set that ends so
pub record Ends (truth : ℕ) (ends : PairSet) (sets : List PairSet) (g f : ℕ) : Type 0 where
  pub golden : List Bool
  pub faulty : List Bool
  pub chosen : AreChosen sets golden faulty
  pub at_end : has ends (bit truth (row_from g golden)) (bit truth (row_from f faulty)) ≡ true

one_more : (truth : ℕ) (ends pairs : PairSet) (sets : List PairSet) (g f : ℕ) (a b : Bool)
    → ((x y : ℕ) → some_end truth ends sets x y ≡ true → Ends truth ends sets x y)
    → (has pairs a b && some_end truth ends sets (if a then 2 * g + 1 else 2 * g) (if b then 2 * f + 1 else 2 * f)) ≡ true → Ends truth ends (pairs ∷ sets) g f
one_more truth ends pairs sets g f a b rest e =
    let parts = and_both (has pairs a b) (some_end truth ends sets (if a then 2 * g + 1 else 2 * g) (if b then 2 * f + 1 else 2 * f)) e in
    let more = rest (if a then 2 * g + 1 else 2 * g) (if b then 2 * f + 1 else 2 * f) parts.1 in
    record { golden = a ∷ more.golden; faulty = b ∷ more.faulty; chosen = (parts.0, more.chosen); at_end = more.at_end }

pub end_says : (truth : ℕ) (ends : PairSet) (sets : List PairSet) (g f : ℕ) → some_end truth ends sets g f ≡ true → Ends truth ends sets g f
end_says truth ends [] g f e = record { golden = []; faulty = []; chosen = tt; at_end = e }
end_says truth ends (pairs ∷ sets) g f e =
    let zeros : Bool = has pairs false false && some_end truth ends sets (2 * g) (2 * f) in
    let golden : Bool = has pairs true false && some_end truth ends sets (2 * g + 1) (2 * f) in
    let faulty : Bool = has pairs false true && some_end truth ends sets (2 * g) (2 * f + 1) in
    let ones : Bool = has pairs true true && some_end truth ends sets (2 * g + 1) (2 * f + 1) in
    elim (or_cases (zeros || golden || faulty) ones e) as (λ _. Ends truth ends (pairs ∷ sets) g f) [
      | inr last ↦ one_more truth ends pairs sets g f true true (λ x y h. end_says truth ends sets x y h) last
      | inl three ↦ elim (or_cases (zeros || golden) faulty three) as (λ _. Ends truth ends (pairs ∷ sets) g f) [
        | inr third ↦ one_more truth ends pairs sets g f false true (λ x y h. end_says truth ends sets x y h) third
        | inl two ↦ elim (or_cases zeros golden two) as (λ _. Ends truth ends (pairs ∷ sets) g f) [
          | inr second ↦ one_more truth ends pairs sets g f true false (λ x y h. end_says truth ends sets x y h) second
          | inl first ↦ one_more truth ends pairs sets g f false false (λ x y h. end_says truth ends sets x y h) first
        ]
      ]
    ]

middle : (x y z : Bool) → y ≡ true → ((x || y) || z) ≡ true
middle true y z e = refl
middle false y z e = rw e refl

-- one of four passes
pub of_four : (a b : Bool) (zeros golden faulty ones : Bool) → (if b then (if a then ones else faulty) else if a then golden else zeros) ≡ true → (zeros || golden || faulty || ones) ≡ true
of_four true true zeros golden faulty ones e = or_second (zeros || golden || faulty) ones e
of_four false true zeros golden faulty ones e = middle (zeros || golden) faulty ones e
of_four true false zeros golden faulty ones e = rw (or_second zeros golden e) refl
of_four false false zeros golden faulty ones e = rw e refl

pub end_from : (truth : ℕ) (ends : PairSet) (sets : List PairSet) (g f : ℕ) (golden faulty : List Bool) → AreChosen sets golden faulty
    → has ends (bit truth (row_from g golden)) (bit truth (row_from f faulty)) ≡ true → some_end truth ends sets g f ≡ true
end_from truth ends [] g f [] [] chosen e = e
end_from truth ends [] g f [] (y ∷ ys) chosen e = absurd chosen
end_from truth ends [] g f (x ∷ xs) [] chosen e = absurd chosen
end_from truth ends [] g f (x ∷ xs) (y ∷ ys) chosen e = absurd chosen
end_from truth ends (pairs ∷ sets) g f [] [] chosen e = absurd chosen
end_from truth ends (pairs ∷ sets) g f [] (y ∷ ys) chosen e = absurd chosen
end_from truth ends (pairs ∷ sets) g f (x ∷ xs) [] chosen e = absurd chosen
end_from truth ends (pairs ∷ sets) g f (true ∷ golden) (true ∷ faulty) chosen e =
    or_second _ _ (both_true (has pairs true true) _ chosen.0 (end_from truth ends sets (2 * g + 1) (2 * f + 1) golden faulty chosen.1 e))
end_from truth ends (pairs ∷ sets) g f (false ∷ golden) (true ∷ faulty) chosen e =
    middle _ _ _ (both_true (has pairs false true) _ chosen.0 (end_from truth ends sets (2 * g) (2 * f + 1) golden faulty chosen.1 e))
end_from truth ends (pairs ∷ sets) g f (true ∷ golden) (false ∷ faulty) chosen e =
    let here = both_true (has pairs true false) _ chosen.0 (end_from truth ends sets (2 * g + 1) (2 * f) golden faulty chosen.1 e) in
    of_four true false _ _ _ _ here
end_from truth ends (pairs ∷ sets) g f (false ∷ golden) (false ∷ faulty) chosen e =
    let here = both_true (has pairs false false) _ chosen.0 (end_from truth ends sets (2 * g) (2 * f) golden faulty chosen.1 e) in
    of_four false false _ _ _ _ here

-- ---- sets of which one is another

pub chosen_at : (sets : List PairSet) (golden faulty : List Bool) (i : ℕ) → i < length sets → AreChosen sets golden faulty → has (set_at sets i) (bit_at golden i) (bit_at faulty i) ≡ true
chosen_at [] golden faulty i lt chosen = absurd (omega (arith, lt))
chosen_at (pairs ∷ sets) [] [] i lt chosen = absurd chosen
chosen_at (pairs ∷ sets) [] (y ∷ ys) i lt chosen = absurd chosen
chosen_at (pairs ∷ sets) (x ∷ xs) [] i lt chosen = absurd chosen
chosen_at (pairs ∷ sets) (x ∷ xs) (y ∷ ys) zero lt chosen = chosen.0
chosen_at (pairs ∷ sets) (x ∷ xs) (y ∷ ys) (suc i) lt chosen = chosen_at sets xs ys i (omega (arith, lt)) chosen.1

pub chosen_set : (sets : List PairSet) (golden faulty : List Bool) (i : ℕ) (new : PairSet) → has new (bit_at golden i) (bit_at faulty i) ≡ true → AreChosen sets golden faulty
    → AreChosen (set sets i new) golden faulty
chosen_set [] golden faulty i new own chosen = chosen
chosen_set (pairs ∷ sets) [] [] i new own chosen = absurd chosen
chosen_set (pairs ∷ sets) [] (y ∷ ys) i new own chosen = absurd chosen
chosen_set (pairs ∷ sets) (x ∷ xs) [] i new own chosen = absurd chosen
chosen_set (pairs ∷ sets) (x ∷ xs) (y ∷ ys) zero new own chosen = (own, chosen.1)
chosen_set (pairs ∷ sets) (x ∷ xs) (y ∷ ys) (suc i) new own chosen = (chosen.0, chosen_set sets xs ys i new own chosen.1)

pub chosen_more : (sets : List PairSet) (golden faulty : List Bool) (i : ℕ) (new : PairSet) → ((a b : Bool) → has new a b ≡ true → has (set_at sets i) a b ≡ true)
    → AreChosen (set sets i new) golden faulty → AreChosen sets golden faulty
chosen_more [] golden faulty i new fewer chosen = chosen
chosen_more (pairs ∷ sets) [] [] zero new fewer chosen = absurd chosen
chosen_more (pairs ∷ sets) [] [] (suc i) new fewer chosen = absurd chosen
chosen_more (pairs ∷ sets) [] (y ∷ ys) zero new fewer chosen = absurd chosen
chosen_more (pairs ∷ sets) [] (y ∷ ys) (suc i) new fewer chosen = absurd chosen
chosen_more (pairs ∷ sets) (x ∷ xs) [] zero new fewer chosen = absurd chosen
chosen_more (pairs ∷ sets) (x ∷ xs) [] (suc i) new fewer chosen = absurd chosen
chosen_more (pairs ∷ sets) (x ∷ xs) (y ∷ ys) zero new fewer chosen = (fewer x y chosen.0, chosen.1)
chosen_more (pairs ∷ sets) (x ∷ xs) (y ∷ ys) (suc i) new fewer chosen = (chosen.0, chosen_more sets xs ys i new fewer chosen.1)

-- ---- choices that agree

-- the pairs that the table may give
abbrev AreEnds : Site → PairSet → PairSet → Type 0
AreEnds site own ends = (g f : Bool) → has ends g f ≡ driving site (has own) g f

pub agree_end : (truth : ℕ) (site : Site) (reads : List PairSet) (own ends : PairSet) → AreEnds site own ends → (golden faulty : List Bool) (a b : Bool)
    → Agree truth site reads own golden faulty a b → has ends (truth_gives truth golden) (truth_gives truth faulty) ≡ true
agree_end truth site reads own ends are golden faulty a b agree =
    are (truth_gives truth golden) (truth_gives truth faulty)
    ∙ driving_from site (has own) (truth_gives truth golden) (truth_gives truth faulty) b (ap (λ g. has own g b) (sym agree.golden_is) ∙ agree.has_own) agree.faulty_may

end_agrees : (truth : ℕ) (site : Site) (reads : List PairSet) (own ends : PairSet) → AreEnds site own ends → (golden faulty : List Bool) → AreChosen reads golden faulty
    → has ends (truth_gives truth golden) (truth_gives truth faulty) ≡ true → (b : Bool) × Agree truth site reads own golden faulty (truth_gives truth golden) b
end_agrees truth site reads own ends are golden faulty chosen e =
    let says = driving_says site (has own) (truth_gives truth golden) (truth_gives truth faulty) (sym (are (truth_gives truth golden) (truth_gives truth faulty)) ∙ e) in
    (says.0, record { chosen = chosen; has_own = says.1; golden_is = refl; faulty_may = says.2 })

this_is : (a b x y : Bool) → this_pair a b x y ≡ true → (x ≡ a) × (y ≡ b)
this_is a b x y e = let parts = and_both (same_bit a x) (same_bit b y) e in (sym (same_bit_true a x parts.0), sym (same_bit_true b y parts.1))

this_itself : (a b x y : Bool) → x ≡ a → y ≡ b → this_pair a b x y ≡ true
this_itself true true x y e f = ap₂ (this_pair true true) e f
this_itself true false x y e f = ap₂ (this_pair true false) e f
this_itself false true x y e f = ap₂ (this_pair false true) e f
this_itself false false x y e f = ap₂ (this_pair false false) e f

-- one pair of a set
abbrev IsOne : PairSet → (a b : Bool) → PairSet → Type 0
IsOne whole a b one = (g f : Bool) → has one g f ≡ (has whole g f && this_pair a b g f)

pub at_says : (truth : ℕ) (site : Site) (reads : List PairSet) (own ends one : PairSet) (i : ℕ) (a b : Bool) → AreEnds site own ends → IsOne (set_at reads i) a b one
    → i < length reads → some_end truth ends (set reads i one) 0 0 ≡ true → AgreesAt truth site reads own i a b
at_says truth site reads own ends one i a b are is lt e =
    let end = end_says truth ends (set reads i one) 0 0 e in
    let chosen : AreChosen reads end.golden end.faulty =
    chosen_more reads end.golden end.faulty i one (λ g f h. (and_both (has (set_at reads i) g f) (this_pair a b g f) (sym (is g f) ∙ h)).0) end.chosen in
    let agree = end_agrees truth site reads own ends are end.golden end.faulty chosen end.at_end in
    let here : has one (bit_at end.golden i) (bit_at end.faulty i) ≡ true =
    ap (λ (pairs : PairSet). has pairs (bit_at end.golden i) (bit_at end.faulty i)) (sym (get_or-set_same reads i one (record { bits = 0 }) lt))
    ∙ chosen_at (set reads i one) end.golden end.faulty i (omega (arith, lt, length-set reads i one)) end.chosen in
    let same = this_is a b (bit_at end.golden i) (bit_at end.faulty i)
    (and_both (has (set_at reads i) (bit_at end.golden i) (bit_at end.faulty i)) (this_pair a b (bit_at end.golden i) (bit_at end.faulty i))
    (sym (is (bit_at end.golden i) (bit_at end.faulty i)) ∙ here)).1 in
    record {
      golden = end.golden;
      faulty = end.faulty;
      own_golden = truth_gives truth end.golden;
      own_faulty = agree.0;
      agree = agree.1;
      golden_at = same.0;
      faulty_at = same.1;
    }

pub at_from : (truth : ℕ) (site : Site) (reads : List PairSet) (own ends one : PairSet) (i : ℕ) (a b : Bool) → AreEnds site own ends → IsOne (set_at reads i) a b one
    → i < length reads → AgreesAt truth site reads own i a b → some_end truth ends (set reads i one) 0 0 ≡ true
at_from truth site reads own ends one i a b are is lt at =
    end_from truth ends (set reads i one) 0 0 at.golden at.faulty
    (chosen_set reads at.golden at.faulty i one
    (is (bit_at at.golden i) (bit_at at.faulty i)
    ∙ both_true (has (set_at reads i) (bit_at at.golden i) (bit_at at.faulty i)) (this_pair a b (bit_at at.golden i) (bit_at at.faulty i))
    (chosen_at reads at.golden at.faulty i lt at.agree.chosen) (this_itself a b (bit_at at.golden i) (bit_at at.faulty i) at.golden_at at.faulty_at))
    at.agree.chosen)
    (agree_end truth site reads own ends are at.golden at.faulty at.own_golden at.own_faulty at.agree)

-- ---- a net that is read is looked at

-- the new set has the pairs of choices that agree
abbrev pub AreThose : ℕ → Site → List PairSet → PairSet → ℕ → PairSet → Type 0
AreThose truth site reads own i new = (a b : Bool) → (has new a b ≡ true) ↔ AgreesAt truth site reads own i a b

pub lift : (truth : ℕ) (site : Site) (reads : List PairSet) (own : PairSet) (i : ℕ) (new : PairSet) → AreThose truth site reads own i new
    → (golden faulty : List Bool) (a b : Bool) → Agree truth site reads own golden faulty a b → Agree truth site (set reads i new) own golden faulty a b
lift truth site reads own i new are golden faulty a b agree = record {
  chosen = chosen_set reads golden faulty i new
      ((are (bit_at golden i) (bit_at faulty i)).1
      (record { golden = golden; faulty = faulty; own_golden = a; own_faulty = b; agree = agree; golden_at = refl; faulty_at = refl })) agree.chosen;
  has_own = agree.has_own;
  golden_is = agree.golden_is;
  faulty_may = agree.faulty_may;
}

pub lift_at : (truth : ℕ) (site : Site) (reads : List PairSet) (own : PairSet) (i : ℕ) (new : PairSet) → AreThose truth site reads own i new
    → (j : ℕ) (a b : Bool) → AgreesAt truth site reads own j a b → AgreesAt truth site (set reads i new) own j a b
lift_at truth site reads own i new are j a b at = record {
  golden = at.golden;
  faulty = at.faulty;
  own_golden = at.own_golden;
  own_faulty = at.own_faulty;
  agree = lift truth site reads own i new are at.golden at.faulty at.own_golden at.own_faulty at.agree;
  golden_at = at.golden_at;
  faulty_at = at.faulty_at;
}

pub at_has : (truth : ℕ) (site : Site) (reads : List PairSet) (own : PairSet) (i : ℕ) (a b : Bool) → i < length reads → AgreesAt truth site reads own i a b → has (set_at reads i) a b ≡ true
at_has truth site reads own i a b lt at =
    ap₂ (has (set_at reads i)) (sym at.golden_at) (sym at.faulty_at) ∙ chosen_at reads at.golden at.faulty i lt at.agree.chosen

pub half_step : (truth : ℕ) (site : Site) (first : List PairSet) (own : PairSet) (reads : List PairSet) (i : ℕ) (new : PairSet) → i < length reads
    → AreThose truth site reads own i new → IsHalfLeft truth site first own reads i → IsHalfLeft truth site first own (set reads i new) (i + 1)
half_step truth site first own reads i new lt are half = record {
  count = length-set reads i new ∙ half.count;
  among = λ j a b h. (elim (cases_eq j i) as (λ _. has (set_at first j) a b ≡ true) [
    | inl same ↦ half.among j a b (ap (λ k. has (set_at reads k) a b) same ∙ at_has truth site reads own i a b lt ((are a b).0 (here j a b same h)))
    | inr apart ↦ half.among j a b (there j a b apart h)
  ]);
  keeps = λ golden faulty a b agree. lift truth site reads own i new are golden faulty a b (half.keeps golden faulty a b agree);
  supported = λ j a b less h. (elim (cases_eq j i) as (λ _. AgreesAt truth site (set reads i new) own j a b) [
    | inl same ↦ lift_at truth site reads own i new are j a b (rw same ((are a b).0 (here j a b same h)))
    | inr apart ↦ lift_at truth site reads own i new are j a b (half.supported j a b (omega (arith, less, apart)) (there j a b apart h))
  ]);
}
  where
    here : (j : ℕ) (a b : Bool) → j ≡ i → has (set_at (set reads i new) j) a b ≡ true → has new a b ≡ true
    here j a b same h =
        ap (λ (pairs : PairSet). has pairs a b) (sym (get_or-set_same reads i new (record { bits = 0 }) lt) ∙ ap (set_at (set reads i new)) (sym same)) ∙ h

    there : (j : ℕ) (a b : Bool) → j ≢ i → has (set_at (set reads i new) j) a b ≡ true → has (set_at reads j) a b ≡ true
    there j a b apart h = ap (λ (pairs : PairSet). has pairs a b) (sym (get_or-set_other reads i j new (record { bits = 0 }) apart)) ∙ h

pub half_start : (truth : ℕ) (site : Site) (reads : List PairSet) (own : PairSet) → IsHalfLeft truth site reads own reads 0
half_start truth site reads own = record {
  count = refl;
  among = λ i a b h. h;
  keeps = λ golden faulty a b agree. agree;
  supported = λ i a b less h. absurd (omega (arith, less));
}

-- ---- and the own net

pub own_says : (truth : ℕ) (site : Site) (reads : List PairSet) (own ends one : PairSet) (a b : Bool) → AreEnds site one ends → IsOne own a b one
    → some_end truth ends reads 0 0 ≡ true → AgreesOwn truth site reads own a b
own_says truth site reads own ends one a b are is e =
    let end = end_says truth ends reads 0 0 e in
    let agree = end_agrees truth site reads one ends are end.golden end.faulty end.chosen end.at_end in
    let both = and_both (has own (truth_gives truth end.golden) agree.0) (this_pair a b (truth_gives truth end.golden) agree.0)
    (sym (is (truth_gives truth end.golden) agree.0) ∙ agree.1.has_own) in
    let same = this_is a b (truth_gives truth end.golden) agree.0 both.1 in
    record {
      golden = end.golden;
      faulty = end.faulty;
      agree = record {
        chosen = end.chosen;
        has_own = ap₂ (has own) (sym same.0) (sym same.1) ∙ both.0;
        golden_is = sym same.0;
        faulty_may = ap (may_show site (truth_gives truth end.faulty)) (sym same.1) ∙ agree.1.faulty_may;
      };
    }

pub own_from : (truth : ℕ) (site : Site) (reads : List PairSet) (own ends one : PairSet) (a b : Bool) → AreEnds site one ends → IsOne own a b one
    → AgreesOwn truth site reads own a b → some_end truth ends reads 0 0 ≡ true
own_from truth site reads own ends one a b are is at =
    end_from truth ends reads 0 0 at.golden at.faulty at.agree.chosen
    (agree_end truth site reads one ends are at.golden at.faulty a b (record {
      chosen = at.agree.chosen;
      has_own = is a b ∙ both_true (has own a b) (this_pair a b a b) at.agree.has_own (this_itself a b a b refl refl);
      golden_is = at.agree.golden_is;
      faulty_may = at.agree.faulty_may;
    }))

pub whole_left : (truth : ℕ) (site : Site) (reads : List PairSet) (own : PairSet) (left : List PairSet) (looked : ℕ) (own_left : PairSet) → length left ≤ looked
    → IsHalfLeft truth site reads own left looked → ((a b : Bool) → (has own_left a b ≡ true) ↔ AgreesOwn truth site left own a b) → IsLeft truth site reads own left own_left
whole_left truth site reads own left looked own_left all half are = record {
  count = half.count;
  among = half.among;
  own_among = λ a b h. ((are a b).0 h).agree.has_own;
  keeps = λ golden faulty a b agree. lifted golden faulty a b (half.keeps golden faulty a b agree);
  supported = λ i a b less h. (let at = half.supported i a b (omega (arith, less, all)) h in record {
    golden = at.golden;
    faulty = at.faulty;
    own_golden = at.own_golden;
    own_faulty = at.own_faulty;
    agree = lifted at.golden at.faulty at.own_golden at.own_faulty at.agree;
    golden_at = at.golden_at;
    faulty_at = at.faulty_at;
  });
  own_supported = λ a b h. (let at = (are a b).0 h in record { golden = at.golden; faulty = at.faulty; agree = lifted at.golden at.faulty a b at.agree });
}
  where
    lifted : (golden faulty : List Bool) (a b : Bool) → Agree truth site left own golden faulty a b → Agree truth site left own_left golden faulty a b
    lifted golden faulty a b agree = record {
      chosen = agree.chosen;
      has_own = (are a b).1 (record { golden = golden; faulty = faulty; agree = agree });
      golden_is = agree.golden_is;
      faulty_may = agree.faulty_may;
    }
