-- Lists of cycles and of intervals, with one more; lists that are the same place by place; and what is found first.
use Rattle.std.proofs.Common.{◌≡◌, ℕ, suc, ◌+◌, ◌<◌, Bool, true, false, cond, ◌||◌, List, [], ◌∷◌, ◌++◌, length, map, take, drop, get_or, max, min, find, Option, Some, None, is_some, refl, ap, ap₂, sym, ◌∙◌, arith}
use Rattle.std.specs.List.{list_any}
use Rattle.std.specs.Option.{option_or}
use Rattle.std.proofs.lemmas.List.{drop_more, map-append, take-append-drop, take_more}
use Rattle.std.proofs.lemmas.List.Folds.{find-append}
use Rattle.fm_base.proofs.Finding.{list_any-map}
use Rattle.first_cycles.specs.FirstCycles.{earlier, earliest}
use Rattle.first_cycles.specs.Shown.{longer, longest}

-- ---- the earliest of one cycle more

earlier_none : (a : Option ℕ) → earlier a None ≡ a
earlier_none None = refl
earlier_none (Some t) = refl

earlier_assoc : (a b c : Option ℕ) → earlier a (earlier b c) ≡ earlier (earlier a b) c
earlier_assoc None b c = refl
earlier_assoc (Some t) None c = refl
earlier_assoc (Some t) (Some u) None = refl
earlier_assoc (Some t) (Some u) (Some v) = let e : min t (min u v) ≡ min (min t u) v = omega arith in ap (λ n. Some n) e

earliest_push : (ts : List (Option ℕ)) (t : Option ℕ) → earliest (ts ++ t ∷ []) ≡ earlier (earliest ts) t
earliest_push [] t = earlier_none t
earliest_push (u ∷ ts) t = ap (earlier u) (earliest_push ts t) ∙ earlier_assoc u (earliest ts) t

pub earliest_more : {X : Type 0} (f : X → Option ℕ) (xs : List X) (i : ℕ) (d : X) → i < length xs
    → earlier (earliest (map f (take i xs))) (f (get_or xs i d)) ≡ earliest (map f (take (i + 1) xs))
earliest_more f xs i d lt =
    sym (ap (λ ys. earliest (map f ys)) (take_more xs i d lt) ∙ ap earliest (map-append f (take i xs) (get_or xs i d ∷ [])) ∙ earliest_push (map f (take i xs)) (f (get_or xs i d)))

-- there is an earliest where there is some cycle
some_earlier : (a b : Option ℕ) → is_some (earlier a b) ≡ (is_some a || is_some b)
some_earlier None b = refl
some_earlier (Some t) None = refl
some_earlier (Some t) (Some u) = refl

pub some_earliest : {X : Type 0} (f : X → Option ℕ) (xs : List X) → is_some (earliest (map f xs)) ≡ list_any (λ x. is_some (f x)) xs
some_earliest f [] = refl
some_earliest f (x ∷ xs) = some_earlier (f x) (earliest (map f xs)) ∙ ap (λ b. is_some (f x) || b) (some_earliest f xs)

-- ---- the longest of one interval more

longer_none : (a : Option ℕ) → longer a None ≡ None
longer_none None = refl
longer_none (Some m) = refl

longer_zero : (a : Option ℕ) → longer a (Some 0) ≡ longer (Some 0) a
longer_zero None = refl
longer_zero (Some m) = let e : max m 0 ≡ max 0 m = omega arith in ap (λ n. Some n) e

longer_assoc : (a b c : Option ℕ) → longer a (longer b c) ≡ longer (longer a b) c
longer_assoc None b c = refl
longer_assoc (Some m) None c = refl
longer_assoc (Some m) (Some n) None = refl
longer_assoc (Some m) (Some n) (Some o) = let e : max m (max n o) ≡ max (max m n) o = omega arith in ap (λ k. Some k) e

pub longest_push : (ms : List (Option ℕ)) (m : Option ℕ) → longest (ms ++ m ∷ []) ≡ longer (longest ms) m
longest_push [] m = longer_zero m
longest_push (n ∷ ms) m = ap (longer n) (longest_push ms m) ∙ longer_assoc n (longest ms) m

pub longest_more : {X : Type 0} (f : X → Option ℕ) (xs : List X) (i : ℕ) (d : X) → i < length xs
    → longer (longest (map f (take i xs))) (f (get_or xs i d)) ≡ longest (map f (take (i + 1) xs))
longest_more f xs i d lt =
    sym (ap (λ ys. longest (map f ys)) (take_more xs i d lt) ∙ ap longest (map-append f (take i xs) (get_or xs i d ∷ [])) ∙ longest_push (map f (take i xs)) (f (get_or xs i d)))

-- ---- place by place

pub same_maps : {X Y Z : Type 0} (f : X → Z) (g : Y → Z) (xs : List X) (ys : List Y) (dx : X) (dy : Y) → length xs ≡ length ys
    → ((i : ℕ) → i < length ys → f (get_or xs i dx) ≡ g (get_or ys i dy)) → map f xs ≡ map g ys
same_maps f g [] [] dx dy count same = refl
same_maps f g [] (y ∷ ys) dx dy count same = absurd (omega (arith, count))
same_maps f g (x ∷ xs) [] dx dy count same = absurd (omega (arith, count))
same_maps f g (x ∷ xs) (y ∷ ys) dx dy count same =
    let first : 0 < suc (length ys) = omega arith in
    ap₂ (λ a b. a ∷ b) (same 0 first)
    (same_maps f g xs ys dx dy (omega (arith, count)) (λ i lt. let next : suc i < suc (length ys) = omega (arith, lt) in same (suc i) next))

pub same_any : {X Y : Type 0} (p : X → Bool) (q : Y → Bool) (xs : List X) (ys : List Y) (dx : X) (dy : Y) → length xs ≡ length ys
    → ((i : ℕ) → i < length ys → p (get_or xs i dx) ≡ q (get_or ys i dy)) → list_any p xs ≡ list_any q ys
same_any p q xs ys dx dy count same =
    sym (list_any-map (λ b. b) p xs) ∙ ap (list_any (λ b. b)) (same_maps p q xs ys dx dy count same) ∙ list_any-map (λ b. b) q ys

-- ---- of two tests

crossed : (a b c d : Bool) → ((a || b) || (c || d)) ≡ ((a || c) || (b || d))
crossed true b c d = refl
crossed false true true d = refl
crossed false true false d = refl
crossed false false c d = refl

pub any_either : {X : Type 0} (p q : X → Bool) (xs : List X) → list_any (λ x. p x || q x) xs ≡ (list_any p xs || list_any q xs)
any_either p q [] = refl
any_either p q (x ∷ xs) = ap (λ b. (p x || q x) || b) (any_either p q xs) ∙ crossed (p x) (q x) (list_any p xs) (list_any q xs)

pub none_any : {X : Type 0} (xs : List X) → list_any (λ x. false) xs ≡ false
none_any [] = refl
none_any (x ∷ xs) = none_any xs

-- ---- what is found first

pub find_none_more : {X : Type 0} (p : X → Bool) (xs : List X) (i : ℕ) (d : X) → i < length xs → find p (take i xs) ≡ None → p (get_or xs i d) ≡ false
    → find p (take (i + 1) xs) ≡ None
find_none_more p xs i d lt none other =
    ap (find p) (take_more xs i d lt) ∙ find-append p (take i xs) (get_or xs i d ∷ []) ∙ ap (λ o. option_or o (find p (get_or xs i d ∷ []))) none
    ∙ ap (λ b. cond b (Some (get_or xs i d)) None) other

pub find_here : {X : Type 0} (p : X → Bool) (xs : List X) (i : ℕ) (d : X) → i < length xs → find p (take i xs) ≡ None → p (get_or xs i d) ≡ true
    → find p xs ≡ Some (get_or xs i d)
find_here p xs i d lt none here =
    let x = get_or xs i d in
    ap (find p) (sym (take-append-drop i xs)) ∙ find-append p (take i xs) (drop i xs) ∙ ap (λ o. option_or o (find p (drop i xs))) none
    ∙ ap (find p) (drop_more xs i d lt) ∙ ap (λ b. cond b (Some x) (find p (drop (i + 1) xs))) here
