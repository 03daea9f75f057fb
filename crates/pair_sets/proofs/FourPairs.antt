-- The four pairs of a set, one after the other.
use Rattle.std.proofs.Common.{◌≡◌, ℕ, zero, suc, ◌+◌, ◌<◌, ◌≤◌, Bool, true, false, List, [], ◌∷◌, length, get_or, set, refl, ap, sym, subst, ◌∙◌}
use Rattle.std.specs.Prelude.{if◌then◌else◌, ◌↔◌}
use Rattle.coverage_claim.specs.declared.parts.Site.{Site}
use Rattle.pair_sets.specs.Choice.{AgreesAt, AgreesOwn, IsLeft}
use Rattle.pair_sets.specs.Pairs.{has}
use Rattle.pair_sets.specs.Steps.{IsHalfLeft}
use Rattle.pair_sets.specs.declared.pairs.PairSet.{PairSet}
use Rattle.pair_sets.proofs.Choices.{AreThose, half_step, whole_left}

-- what stood at a place is put back
pub put_back : {X : Type 0} (xs : List X) (i : ℕ) (x d : X) → set (set xs i x) i (get_or xs i d) ≡ xs
put_back [] i x d = refl
put_back (y ∷ ys) zero x d = refl
put_back (y ∷ ys) (suc i) x d = ap (λ zs. y ∷ zs) (put_back ys i x d)

-- a set of the pairs that pass
abbrev pub IsOfFour : PairSet → (zeros golden faulty ones : Bool) → Type 0
IsOfFour new zeros golden faulty ones = (g f : Bool) → has new g f ≡ (if f then (if g then ones else faulty) else if g then golden else zeros)

-- it has those for which something holds, where each of the four passes exactly then
four_those : (P : Bool → Bool → Type 0) (new : PairSet) (zeros golden faulty ones : Bool) → IsOfFour new zeros golden faulty ones
    → (zeros ≡ true) ↔ P false false → (golden ≡ true) ↔ P true false → (faulty ≡ true) ↔ P false true → (ones ≡ true) ↔ P true true
    → (a b : Bool) → (has new a b ≡ true) ↔ P a b
four_those P new zeros golden faulty ones is z g f o false false = (λ h. z.0 (sym (is false false) ∙ h), λ at. is false false ∙ z.1 at)
four_those P new zeros golden faulty ones is z g f o true false = (λ h. g.0 (sym (is true false) ∙ h), λ at. is true false ∙ g.1 at)
four_those P new zeros golden faulty ones is z g f o false true = (λ h. f.0 (sym (is false true) ∙ h), λ at. is false true ∙ f.1 at)
four_those P new zeros golden faulty ones is z g f o true true = (λ h. o.0 (sym (is true true) ∙ h), λ at. is true true ∙ o.1 at)

-- A NET THAT IS READ is looked at: its four pairs, while the sets stay
pub read_step : (truth : ℕ) (site : Site) (own : PairSet) (i : ℕ) (first r0 r1 r2 r3 r4 : List PairSet) (new : PairSet) (zeros golden faulty ones : Bool)
    → r1 ≡ r0 → r2 ≡ r1 → r3 ≡ r2 → r4 ≡ r3 → i < length r0 → IsOfFour new zeros golden faulty ones
    → (zeros ≡ true) ↔ AgreesAt truth site r0 own i false false → (golden ≡ true) ↔ AgreesAt truth site r1 own i true false
    → (faulty ≡ true) ↔ AgreesAt truth site r2 own i false true → (ones ≡ true) ↔ AgreesAt truth site r3 own i true true
    → IsHalfLeft truth site first own r0 i → IsHalfLeft truth site first own (set r4 i new) (i + 1)
read_step truth site own i first r0 r1 r2 r3 r4 new zeros golden faulty ones e1 e2 e3 e4 lt is z g f o half =
    let to2 : r2 ≡ r0 = e2 ∙ e1 in
    let to3 : r3 ≡ r0 = e3 ∙ to2 in
    let to4 : r4 ≡ r0 = e4 ∙ to3 in
    let those : AreThose truth site r0 own i new = four_those (AgreesAt truth site r0 own i) new zeros golden faulty ones is z
    (subst (λ xs. (golden ≡ true) ↔ AgreesAt truth site xs own i true false) e1 g)
    (subst (λ xs. (faulty ≡ true) ↔ AgreesAt truth site xs own i false true) to2 f)
    (subst (λ xs. (ones ≡ true) ↔ AgreesAt truth site xs own i true true) to3 o) in
    subst (λ xs. IsHalfLeft truth site first own (set xs i new) (i + 1)) (sym to4) (half_step truth site first own r0 i new lt those half)

-- and the own net last
pub own_step : (truth : ℕ) (site : Site) (reads : List PairSet) (own : PairSet) (left : List PairSet) (looked : ℕ) (new : PairSet) (zeros golden faulty ones : Bool)
    → length left ≤ looked → IsHalfLeft truth site reads own left looked → IsOfFour new zeros golden faulty ones
    → (zeros ≡ true) ↔ AgreesOwn truth site left own false false → (golden ≡ true) ↔ AgreesOwn truth site left own true false
    → (faulty ≡ true) ↔ AgreesOwn truth site left own false true → (ones ≡ true) ↔ AgreesOwn truth site left own true true
    → IsLeft truth site reads own left new
own_step truth site reads own left looked new zeros golden faulty ones all half is z g f o =
    whole_left truth site reads own left looked new all half (four_those (AgreesOwn truth site left own) new zeros golden faulty ones is z g f o)
