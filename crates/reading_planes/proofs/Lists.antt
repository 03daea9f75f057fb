-- Lists by the numbers of their items.
use Rattle.std.proofs.Common.{◌≡◌, ℕ, zero, suc, ◌+◌, ◌<◌, ◌≤◌, Bool, true, false, ◌&&◌, ◌||◌, List, [], ◌∷◌, ◌++◌, length, map, take, filter, get_or, cond, refl, ap, sym, ◌∙◌, arith, append-nil, append_assoc, take_all, add-one}
use Rattle.std.specs.List.{flat_map, list_any}
use Rattle.std.proofs.lemmas.List.{map-append, take_more}
use Rattle.std.proofs.lemmas.List.Folds.{list_any_more}
use Rattle.circuit.specs.declared.parts.NetId.{NetId}
use Rattle.fm_base.specs.Lists.{below}
use Rattle.std.proofs.lemmas.List.Concat.{flat_map-append}
use Rattle.fm_base.proofs.Below.{below_push, map-below}
use Rattle.std.specs.Prelude.{Option, None}
use Rattle.reading_planes.specs.Readings.{is_other, others}

-- none so far
pub none_below : {X : Type 0} (f : ℕ → X) (start : List X) → start ≡ start ++ map f (below 0)
unfolding below
none_below f start = sym (append-nil start)

-- one number more
pub pushed_below : {X : Type 0} (f : ℕ → X) (start items : List X) (n : ℕ) → items ≡ start ++ map f (below n) → items ++ f n ∷ [] ≡ start ++ map f (below (n + 1))
pushed_below f start items n e =
    ap (λ xs. xs ++ f n ∷ []) e ∙ append_assoc start (map f (below n)) (f n ∷ []) ∙ ap (λ xs. start ++ xs) (sym (ap (λ k. map f (below k)) (add-one n) ∙ map-below f n))

-- the same of several for each number
pub none_flat : {X : Type 0} (f : ℕ → List X) (start : List X) → start ≡ start ++ flat_map f (below 0)
unfolding below
none_flat f start = sym (append-nil start)

pub pushed_flat : {X : Type 0} (f : ℕ → List X) (start items : List X) (n : ℕ) → items ≡ start ++ flat_map f (below n) → items ++ f n ≡ start ++ flat_map f (below (n + 1))
pushed_flat f start items n e =
    ap (λ xs. xs ++ f n) e ∙ append_assoc start (flat_map f (below n)) (f n)
    ∙ ap (λ xs. start ++ xs)
    (sym (ap (λ k. flat_map f (below k)) (add-one n) ∙ ap (flat_map f) (below_push n) ∙ flat_map-append f (below n) (n ∷ []) ∙ ap (λ xs. flat_map f (below n) ++ xs) (append-nil (f n))))

-- one item more
pub pushed_item : {X Y : Type 0} (f : X → Y) (start items : List Y) (xs : List X) (i : ℕ) (none : X) → i < length xs → items ≡ start ++ map f (take i xs)
    → items ++ f (get_or xs i none) ∷ [] ≡ start ++ map f (take (i + 1) xs)
pushed_item f start items xs i none lt e =
    ap (λ ys. ys ++ f (get_or xs i none) ∷ []) e ∙ append_assoc start (map f (take i xs)) (f (get_or xs i none) ∷ [])
    ∙ ap (λ ys. start ++ ys) (sym (ap (map f) (take_more xs i none lt) ∙ map-append f (take i xs) (get_or xs i none ∷ [])))

module _ {X Y : Type 0} (f : X → Y) (xs : List X) (none : X) where
  first_numbers : (n : ℕ) → n ≤ length xs → map (λ g. f (get_or xs g none)) (below n) ≡ map f (take n xs)
  unfolding below
  first_numbers zero le = refl
  first_numbers (suc n) le =
      let next : n + 1 ≡ suc n = omega arith in
      map-below (λ g. f (get_or xs g none)) n
      ∙ ap (λ ys. ys ++ f (get_or xs n none) ∷ []) (first_numbers n (omega (arith, le)))
      ∙ sym (ap (λ k. map f (take k xs)) (sym next) ∙ ap (map f) (take_more xs n none (omega (arith, le))) ∙ map-append f (take n xs) (get_or xs n none ∷ []))

  -- each item by its number
  pub by_numbers : map (λ g. f (get_or xs g none)) (below (length xs)) ≡ map f xs
  by_numbers = first_numbers (length xs) (omega arith) ∙ ap (map f) (take_all (length xs) xs (omega arith))

-- all alarm points, where none is left out
pub all_others : (nets : List NetId) → others None nets ≡ nets
all_others [] = refl
all_others (net ∷ nets) = ap (λ ns. net ∷ ns) (all_others nets)

pub any_kept : {X : Type 0} (b : Bool) (p : X → Bool) (x : X) (xs : List X) → list_any p (cond b (x ∷ xs) xs) ≡ ((b && p x) || list_any p xs)
any_kept true p x xs = refl
any_kept false p x xs = refl

pub any_others : {X : Type 0} (keeps p : X → Bool) (xs : List X) → list_any p (filter keeps xs) ≡ list_any (λ x. keeps x && p x) xs
any_others keeps p [] = refl
any_others keeps p (x ∷ xs) = any_kept (keeps x) p x (filter keeps xs) ∙ ap (λ b. (keeps x && p x) || b) (any_others keeps p xs)

-- one alarm point more
pub any_more : (gives : NetId → Bool) (out : Option NetId) (nets : List NetId) (i : ℕ) (none : NetId) → i < length nets
    → (list_any gives (others out (take i nets)) || (is_other (get_or nets i none) out && gives (get_or nets i none))) ≡ list_any gives (others out (take (i + 1) nets))
any_more gives out nets i none lt =
    ap (λ b. b || (is_other (get_or nets i none) out && gives (get_or nets i none))) (any_others (λ net. is_other net out) gives (take i nets))
    ∙ sym (any_others (λ net. is_other net out) gives (take (i + 1) nets) ∙ list_any_more (λ net. is_other net out && gives net) nets i none lt)
