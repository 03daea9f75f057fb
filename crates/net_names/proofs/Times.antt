-- How often a name stands in a list, and where.
use Rattle.std.proofs.Common.{◌≡◌, ℕ, zero, suc, ◌+◌, ◌≤◌, true, false, ◌||◌, List, [], ◌∷◌, ◌++◌, refl, sym, ◌∙◌, length, arith}
use Rattle.std.specs.Prelude.{bytes_eq, map, Some}
use Rattle.std.specs.List.{slice_get, position_or_len}
use Rattle.std.proofs.lemmas.Bool.Decides.{nat_tests}
use Rattle.std.proofs.lemmas.List.Folds.{list_any-append}
use Rattle.fm_base.specs.Names.{Name, is_one_of, has_repeat}
use Rattle.fm_base.proofs.Distinct.{same_name, is_same, bytes_eq-sym}
use Rattle.circuit.specs.Sound.{AreApart}
use Rattle.net_names.specs.Driven.{name_count}

-- ---- how often

pub times-append : (name : Name) (xs ys : List Name) → name_count name (xs ++ ys) ≡ name_count name xs + name_count name ys
times-append name [] ys = omega arith
times-append name (x ∷ xs) ys = omega (arith, times-append name xs ys)

-- a name stands in a list at least once exactly where it is found in it
pub times-found : (name : Name) (xs : List Name) → is_one_of xs name ≡ true → 1 ≤ name_count name xs
times-found name [] e = cc
times-found name (x ∷ xs) e = grind (arith, nat_tests, times-found name xs)

pub times-there : (name : Name) (xs : List Name) → 1 ≤ name_count name xs → is_one_of xs name ≡ true
times-there name [] h = absurd (omega arith)
times-there name (x ∷ xs) h = grind (arith, nat_tests, times-there name xs)

pub times-none : (name : Name) (xs : List Name) → is_one_of xs name ≡ false → name_count name xs ≡ 0
times-none name [] e = refl
times-none name (x ∷ xs) e = grind (arith, nat_tests, times-none name xs)

-- without a repeat it stands there once at most, and so the other way round
pub times-once : (name : Name) (xs : List Name) → has_repeat xs ≡ false → name_count name xs ≤ 1
times-once name [] e = omega arith
times-once name (x ∷ xs) e = grind (arith, nat_tests, times-once name xs, times-none name xs, same_name name x)

pub once_no_repeat : (xs : List Name) → ((name : Name) → name_count name xs ≤ 1) → has_repeat xs ≡ false
once_no_repeat [] h = refl
once_no_repeat (x ∷ xs) h =
    grind (arith, nat_tests, times-found, is_same x, h x, once_no_repeat xs (λ name. grind (arith, nat_tests, h name)))

-- ---- where

pub at-found : (xs : List Name) (k : ℕ) (name : Name) → slice_get xs k ≡ Some name → is_one_of xs name ≡ true
at-found [] k name e = cc
at-found (x ∷ xs) zero name e = grind (arith, nat_tests, is_same name)
at-found (x ∷ xs) (suc k) name e = grind (arith, nat_tests, at-found xs k name)

-- a name of either list is one of both
pub one_of_both : (xs ys : List Name) (name : Name) → is_one_of (xs ++ ys) name ≡ (is_one_of xs name || is_one_of ys name)
one_of_both xs ys name = list_any-append (bytes_eq name) xs ys

-- the place of a name
abbrev pub place : List Name → Name → ℕ
place names name = position_or_len (λ n. bytes_eq n name) names

-- the place of a key is that of its text
pub place-of-key : {K : Type 0} (text : K → Name) (keys : List K) (name : Name)
    → position_or_len (λ key. bytes_eq name (text key)) keys ≡ place (map text keys) name
place-of-key text [] name = refl
place-of-key text (key ∷ keys) name = rw (bytes_eq-sym name (text key), place-of-key text keys name)

pub place-found : (names : List Name) (name : Name) → is_one_of names name ≡ true → slice_get names (place names name) ≡ Some name
place-found [] name e = cc
place-found (x ∷ xs) name e = grind (arith, nat_tests, place-found xs name, bytes_eq-sym x name, same_name x name)

pub place-at : (names : List Name) (k : ℕ) (name : Name) → has_repeat names ≡ false → slice_get names k ≡ Some name → place names name ≡ k
place-at [] k name e f = cc
place-at (x ∷ xs) zero name e f = grind (arith, nat_tests, is_same name)
place-at (x ∷ xs) (suc k) name e f = grind (arith, nat_tests, place-at xs k name, at-found xs k name, same_name x name, is_same name)

-- a name that isn't there stands behind the others
pub place_none : (names : List Name) (name : Name) → is_one_of names name ≡ false → place names name ≡ length names
place_none [] name e = refl
place_none (x ∷ xs) name e = grind (arith, nat_tests, place_none xs name, bytes_eq-sym x name)

-- no two places have one name
pub names-apart : (names : List Name) → has_repeat names ≡ false → AreApart names
names-apart names e i j name f g = sym (place-at names i name e f) ∙ place-at names j name e g

-- ---- images

-- what an image has at a place
pub image-at : {X Y : Type 0} (f : X → Y) (xs : List X) (k : ℕ) (y : Y) → slice_get (map f xs) k ≡ Some y
    → (x : X) × (slice_get xs k ≡ Some x) × (f x ≡ y)
image-at f [] k y e = cc
image-at f (x ∷ xs) zero y e = (x, refl, cc)
image-at f (x ∷ xs) (suc k) y e = image-at f xs k y e
