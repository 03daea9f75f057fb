-- Each N-th row, one row after the other.
use Rattle.std.proofs.Common.{◌≡◌, ℕ, ◌+◌, ◌%◌, ◌<◌, ◌==◌, ◌&&◌, Bool, true, false, List, [], ◌∷◌, length, get_or, drop, refl, ap, sym, ◌∙◌, arith}
use Rattle.std.specs.Prelude.{Some, None, find, if◌then◌else◌}
use Rattle.std.proofs.lemmas.Bool.{true≢false}
use Rattle.std.proofs.lemmas.List.{drop_more}
use Rattle.row_audit.specs.Audited.{each_nth, each_nth_from}

-- a row that isn't one of those
pub passed_over : {X : Type 0} (n i : ℕ) (x : X) (xs : List X) → (i % n == 0) ≡ false → each_nth_from n i (x ∷ xs) ≡ each_nth_from n (i + 1) xs
passed_over n i x xs is = rw is refl

-- one that is
pub looked_at : {X : Type 0} (n i : ℕ) (x : X) (xs : List X) → (i % n == 0) ≡ true → each_nth_from n i (x ∷ xs) ≡ x ∷ each_nth_from n (i + 1) xs
looked_at n i x xs is = rw is refl

-- what is found behind a row that isn't what is looked for, and at one that is
pub found_later : {X : Type 0} (p : X → Bool) (x : X) (xs : List X) → p x ≡ false → find p (x ∷ xs) ≡ find p xs
found_later p x xs is = rw is refl

pub found_here : {X : Type 0} (p : X → Bool) (x : X) (xs : List X) → p x ≡ true → find p (x ∷ xs) ≡ Some x
found_here p x xs is = rw is refl

-- the item at a place, and those behind it
pub next_item : {X : Type 0} (xs : List X) (i : ℕ) → i < length xs → (x : X) × (drop i xs ≡ x ∷ drop (i + 1) xs)
next_item [] i lt = absurd (omega (arith, lt))
next_item (x ∷ xs) i lt = (get_or (x ∷ xs) i x, drop_more (x ∷ xs) i x lt)

-- where one of these isn't what is looked for
pub none_here : {X : Type 0} (p : X → Bool) (n i : ℕ) (x : X) (xs : List X) → ((i % n == 0) && p x) ≡ false
    → find p (each_nth_from n i (x ∷ xs)) ≡ find p (each_nth_from n (i + 1) xs)
none_here p n i x xs other = by_case (i % n == 0) refl
  where
    by_case : (b : Bool) → (i % n == 0) ≡ b → find p (each_nth_from n i (x ∷ xs)) ≡ find p (each_nth_from n (i + 1) xs)
    by_case true at = ap (find p) (looked_at n i x xs at) ∙ found_later p x (each_nth_from n (i + 1) xs) (sym (ap (λ b. b && p x) at) ∙ other)
    by_case false at = ap (find p) (passed_over n i x xs at)

-- where it is
pub some_here : {X : Type 0} (p : X → Bool) (n i : ℕ) (x : X) (xs : List X) → ((i % n == 0) && p x) ≡ true → find p (each_nth_from n i (x ∷ xs)) ≡ Some x
some_here p n i x xs is = by_case (i % n == 0) refl
  where
    by_case : (b : Bool) → (i % n == 0) ≡ b → find p (each_nth_from n i (x ∷ xs)) ≡ Some x
    by_case true at = ap (find p) (looked_at n i x xs at) ∙ found_here p x (each_nth_from n (i + 1) xs) (sym (ap (λ b. b && p x) at) ∙ is)
    by_case false at = absurd (true≢false (sym is ∙ ap (λ b. b && p x) at))

-- what a choice says of its test
pub chose_none : {X : Type 0} (b : Bool) (x : X) → None ≡ (if b then Some x else None) → b ≡ false
chose_none true x e = absurd (cc)
chose_none false x e = refl

pub chose_some : {X : Type 0} (b : Bool) (x y : X) → Some y ≡ (if b then Some x else None) → (b ≡ true) × (Some y ≡ Some x)
chose_some true x y e = (refl, e)
chose_some false x y e = absurd (cc)

-- each first item of a list is each
pub every_item : {X : Type 0} (i : ℕ) (xs : List X) → each_nth_from 1 i xs ≡ xs
every_item i [] = refl
every_item i (x ∷ xs) =
    let whole : i % 1 ≡ 0 = omega arith in
    looked_at 1 i x xs (ap (λ n. n == 0) whole) ∙ ap (λ more. x ∷ more) (every_item (i + 1) xs)

-- by hand: each second of five, and each ninth
second_of_five : each_nth {A = ℕ} 2 (7 ∷ 5 ∷ 3 ∷ 2 ∷ 1 ∷ []) ≡ 7 ∷ 3 ∷ 1 ∷ []
second_of_five = refl

ninth_of_five : each_nth {A = ℕ} 9 (7 ∷ 5 ∷ 3 ∷ 2 ∷ 1 ∷ []) ≡ 7 ∷ []
ninth_of_five = refl
