-- The images of a list's items: those that pass a test, and each at its first place.
use Rattle.std.proofs.Common.{◌≡◌, ◌∙◌, Bool, true, false, cond, not, List, [], ◌∷◌, map, filter, refl, ap}
use Rattle.fm_base.specs.Lists.{firsts}

pub filter-map : {X Y : Type 0} (key : X → Y) (test : Y → Bool) (xs : List X) → map key (filter (λ x. test (key x)) xs) ≡ filter test (map key xs)
filter-map key test [] = refl
filter-map {X} {Y} key test (x ∷ xs) = by_cases (test (key x)) (filter-map key test xs)
  where
    by_cases : (b : Bool) → map key (filter (λ x. test (key x)) xs) ≡ filter test (map key xs)
        → map key (cond b (x ∷ filter (λ x. test (key x)) xs) (filter (λ x. test (key x)) xs)) ≡ cond b (key x ∷ filter test (map key xs)) (filter test (map key xs))
    by_cases true e = ap (λ more. key x ∷ more) e
    by_cases false e = e

pub firsts-map : {X Y : Type 0} (key : X → Y) (same : Y → Y → Bool) (xs : List X)
    → map key (firsts (λ a b. same (key a) (key b)) xs) ≡ firsts same (map key xs)
unfolding firsts
firsts-map key same [] = refl
firsts-map key same (x ∷ xs) =
    ap (λ more. key x ∷ more) (filter-map key (λ y. not (same y (key x))) (firsts (λ a b. same (key a) (key b)) xs)
    ∙ ap (filter (λ y. not (same y (key x)))) (firsts-map key same xs))
