-- How a choice is sought, set after set.
use Rattle.std.proofs.Common.{◌≡◌, ℕ, Bool, true, false, ◌&&◌, ◌||◌, List, [], ◌∷◌, length, refl, ap, sym, ◌∙◌, arith}
use Rattle.fm_base.specs.Planes.{bit}
use Rattle.pair_sets.specs.Pairs.{has}
use Rattle.pair_sets.specs.Steps.{digit_behind, some_end}
use Rattle.pair_sets.specs.declared.pairs.PairSet.{PairSet}
use Rattle.pair_sets.proofs.Choices.{of_four}

pub and_yes : (first second found : Bool) → first ≡ true → found ≡ second → found ≡ (first && second)
and_yes first second found passes is = is ∙ sym (ap (λ (x : Bool). x && second) passes)

pub and_no : (first second found : Bool) → found ≡ first → found ≡ false → found ≡ (first && second)
and_no first second found is fails = fails ∙ sym (ap (λ (x : Bool). x && second) (sym is ∙ fails))

-- no set is left
pub end_none : (truth : ℕ) (ends : PairSet) (sets : List PairSet) (g f : ℕ) (found : Bool) → length sets ≡ 0 → found ≡ has ends (bit truth g) (bit truth f)
    → found ≡ some_end truth ends sets g f
end_none truth ends [] g f found none is = is
end_none truth ends (pairs ∷ sets) g f found none is = absurd (omega (arith, none))

abbrev ends_by : ℕ → PairSet → PairSet → List PairSet → Bool → Bool → ℕ → ℕ → Bool
ends_by truth ends pairs sets a b g f = has pairs a b && some_end truth ends sets (digit_behind a g) (digit_behind b f)

-- one of the four pairs of the first set is found
pub end_some : (truth : ℕ) (ends pairs : PairSet) (rest sets : List PairSet) (g f : ℕ) (a b found : Bool) → sets ≡ pairs ∷ rest
    → found ≡ ends_by truth ends pairs rest a b g f → found ≡ true → true ≡ some_end truth ends sets g f
end_some truth ends pairs rest sets g f true true found e is passes = sym (ap (λ xs. some_end truth ends xs g f) e ∙ of_four true true
    (ends_by truth ends pairs rest false false g f) (ends_by truth ends pairs rest true false g f) (ends_by truth ends pairs rest false true g f) (ends_by truth ends pairs rest true true g f) (sym is ∙ passes))
end_some truth ends pairs rest sets g f false true found e is passes = sym (ap (λ xs. some_end truth ends xs g f) e ∙ of_four false true
    (ends_by truth ends pairs rest false false g f) (ends_by truth ends pairs rest true false g f) (ends_by truth ends pairs rest false true g f) (ends_by truth ends pairs rest true true g f) (sym is ∙ passes))
end_some truth ends pairs rest sets g f true false found e is passes = sym (ap (λ xs. some_end truth ends xs g f) e ∙ of_four true false
    (ends_by truth ends pairs rest false false g f) (ends_by truth ends pairs rest true false g f) (ends_by truth ends pairs rest false true g f) (ends_by truth ends pairs rest true true g f) (sym is ∙ passes))
end_some truth ends pairs rest sets g f false false found e is passes = sym (ap (λ xs. some_end truth ends xs g f) e ∙ of_four false false
    (ends_by truth ends pairs rest false false g f) (ends_by truth ends pairs rest true false g f) (ends_by truth ends pairs rest false true g f) (ends_by truth ends pairs rest true true g f) (sym is ∙ passes))

last_of : (zeros golden faulty ones : Bool) → zeros ≡ false → golden ≡ false → faulty ≡ false → ones ≡ (zeros || golden || faulty || ones)
last_of true golden faulty ones p q r = absurd (cc)
last_of false true faulty ones p q r = absurd (cc)
last_of false false true ones p q r = absurd (cc)
last_of false false false ones p q r = refl

-- or the last one decides
pub end_last : (truth : ℕ) (ends pairs : PairSet) (rest sets : List PairSet) (g f : ℕ) (zeros golden faulty found : Bool) → sets ≡ pairs ∷ rest
    → zeros ≡ ends_by truth ends pairs rest false false g f → zeros ≡ false → golden ≡ ends_by truth ends pairs rest true false g f → golden ≡ false
    → faulty ≡ ends_by truth ends pairs rest false true g f → faulty ≡ false → found ≡ ends_by truth ends pairs rest true true g f → found ≡ some_end truth ends sets g f
end_last truth ends pairs rest sets g f zeros golden faulty found e is_z no_z is_g no_g is_f no_f is =
    is ∙ last_of (ends_by truth ends pairs rest false false g f) (ends_by truth ends pairs rest true false g f) (ends_by truth ends pairs rest false true g f) (ends_by truth ends pairs rest true true g f)
    (sym is_z ∙ no_z) (sym is_g ∙ no_g) (sym is_f ∙ no_f) ∙ sym (ap (λ xs. some_end truth ends xs g f) e)
