-- Where the first of a name stands, when one more comes.
use Rattle.std.proofs.Common.{◌≡◌, ℕ, ◌<◌, Bool, true, false, cond, List, [], ◌∷◌, ◌++◌, refl, ap, sym, ◌∙◌, length, arith}
use Rattle.std.specs.Prelude.{Some, None, MatchOption, bytes_eq, find, position}
use Rattle.std.specs.Option.{option_or}
use Rattle.std.specs.List.{slice_get}
use Rattle.std.specs.Borrow.{Bor}
use Rattle.std.proofs.lemmas.Bool.Decides.{nat_tests}
use Rattle.std.proofs.lemmas.List.Folds.{find_at}
use Rattle.std.proofs.lemmas.Option.{slice_get-map, slice_get_past, slice_get_read}
use Rattle.fm_base.proofs.Distinct.{bytes_eq-sym}
use Rattle.fm_base.proofs.Finding.{position-snoc}
use Rattle.blif_flatten.specs.Places.{AreNamePlaces, place_in}

-- one more entry, behind the others
pub added_last : (es : List (Bor (List ℕ) × ℕ)) (name : Bor (List ℕ)) (place : ℕ) (q : List ℕ)
    → place_in (es ++ (name, place) ∷ []) q ≡ option_or (place_in es q) (cond (bytes_eq name.now q) (Some place) None)
added_last [] name place q = ap (λ b. cond b (Some place) None) (bytes_eq-sym q name.now)
added_last (e ∷ es) name place q = by_cases (bytes_eq q e.0.now) (added_last es name place q)
  where
    by_cases : (b : Bool) → place_in (es ++ (name, place) ∷ []) q ≡ option_or (place_in es q) (cond (bytes_eq name.now q) (Some place) None)
        → cond b (Some e.1) (place_in (es ++ (name, place) ∷ []) q)
        ≡ option_or (cond b (Some e.1) (place_in es q)) (cond (bytes_eq name.now q) (Some place) None)
    by_cases true more = refl
    by_cases false more = more

-- what stands at the first place that passes
pub placed : {X : Type 0} (p : X → Bool) (xs : List X)
    → MatchOption (position p xs) (find p xs ≡ None) (λ k. (k < length xs) × (find p xs ≡ slice_get xs k))
placed p xs = grind (arith, nat_tests, find_at p xs, slice_get_past)

-- how an item is found by its place
pub ruleset finds = (slice_get-map, slice_get_read)

-- the places of names, when one more comes
pub places_push : {X : Type 0} (name_of : X → List ℕ) (xs : List X) (x : X) (n : ℕ) (old new : List (Bor (List ℕ) × ℕ))
    → n ≡ length xs → AreNamePlaces name_of xs old
    → ((q : List ℕ) → place_in new q ≡ option_or (place_in old q) (cond (bytes_eq (name_of x) q) (Some n) None))
    → AreNamePlaces name_of (xs ++ x ∷ []) new
places_push name_of xs x n old new size h e name =
    e name ∙ rw (h name, size) (sym (position-snoc (λ y. bytes_eq (name_of y) name) xs x))
