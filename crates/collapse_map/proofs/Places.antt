-- Lists of which one item is known to be the only one.
use Rattle.std.proofs.Common.{◌≡◌, ◌≢◌, ◌⊎◌, inl, inr, ℕ, zero, suc, ◌+◌, ◌<◌, Bool, true, false, cond, List, [], ◌∷◌, ◌++◌, map, refl, ap, sym, ◌∙◌, arith}
use Rattle.std.specs.Prelude.{filter, flat_map}
use Rattle.std.specs.List.{Contains}
use Rattle.std.proofs.lemmas.List.FromFn.{length-range_with_len, get_or-range_with_len}
use Rattle.fm_base.specs.Lists.{below}
use Rattle.std.proofs.lemmas.List.Elements.{Contains-append_right}

-- the first item is the one, or it is among the others
pub here_or_later : {X : Type 0} (x y : X) (xs : List X) → Contains (y ∷ xs) x → (y ≡ x) ⊎ Contains xs x
here_or_later x y xs (zero, lt, e) = inl e
here_or_later x y xs (suc k, lt, e) = inr (k, omega arith, e)

pub first_of : {X : Type 0} (x : X) (xs : List X) → Contains (x ∷ xs) x
first_of x xs = (0, omega arith, refl)

pub in_below : (n k : ℕ) → k < n → Contains (below n) k
unfolding below
in_below n k lt =
    let size = length-range_with_len 0 n in
    let sum : 0 + k ≡ k = omega arith in
    (k, omega (arith, size), get_or-range_with_len 0 n k k lt ∙ sum)

pub from_below : (n k : ℕ) → Contains (below n) k → k < n
unfolding below
from_below n k (i, lt, e) =
    let size = length-range_with_len 0 n in
    let within : i < n = omega (arith, size) in
    let at = get_or-range_with_len 0 n i k within in
    omega (arith, at, e)

-- no item passes where none is kept
pub none_kept : {X : Type 0} (test : X → Bool) (xs : List X) (x : X) → filter test xs ≡ [] → Contains xs x → test x ≡ false
none_kept test [] x e (k, lt, at) = absurd (omega arith)
none_kept {X} test (y ∷ xs) x e there = by_cases (test y) refl e (here_or_later x y xs there) (none_kept test xs x)
  where
    by_cases : (b : Bool) → test y ≡ b → cond b (y ∷ filter test xs) (filter test xs) ≡ [] → (y ≡ x) ⊎ Contains xs x
        → (filter test xs ≡ [] → Contains xs x → test x ≡ false) → test x ≡ false
    by_cases true p f at more = cc
    by_cases false p f (inl same) more = ap test (sym same) ∙ p
    by_cases false p f (inr there) more = more f there

-- what is kept passes
pub first_kept : {X : Type 0} (test : X → Bool) (xs more : List X) (x : X) → filter test xs ≡ x ∷ more → Contains xs x × (test x ≡ true)
first_kept test [] more x e = cc
first_kept {X} test (y ∷ xs) more x e = by_cases (test y) refl e (first_kept test xs more x)
  where
    by_cases : (b : Bool) → test y ≡ b → cond b (y ∷ filter test xs) (filter test xs) ≡ x ∷ more
        → (filter test xs ≡ x ∷ more → Contains xs x × (test x ≡ true)) → Contains (y ∷ xs) x × (test x ≡ true)
    by_cases true p f deeper =
        let same : y ≡ x = cc in
        ((0, omega arith, same), ap test (sym same) ∙ p)
    by_cases false p f deeper = let found = deeper f in (Contains-append_right (y ∷ []) xs x found.0, found.1)

pub none_mapped : {X Y : Type 0} (f : X → Y) (xs : List X) → map f xs ≡ [] → xs ≡ []
none_mapped f [] e = refl
none_mapped f (x ∷ xs) e = cc

-- where a flat list is empty each part is
pub flat_none : {X : Type 0} (f : ℕ → List X) (ks : List ℕ) (j : ℕ) → flat_map f ks ≡ [] → Contains ks j → f j ≡ []
flat_none f [] j e (k, lt, at) = absurd (omega arith)
flat_none {X} f (k ∷ ks) j e there = by_cases (f k) refl e (here_or_later j k ks there) (flat_none f ks j)
  where
    by_cases : (part : List X) → f k ≡ part → part ++ flat_map f ks ≡ [] → (k ≡ j) ⊎ Contains ks j
        → (flat_map f ks ≡ [] → Contains ks j → f j ≡ []) → f j ≡ []
    by_cases [] p g (inl same) more = ap f (sym same) ∙ p
    by_cases [] p g (inr there) more = more g there
    by_cases (x ∷ part) p g at more = cc

-- one part has the one item of a flat list, and the others have none
pub record IsOnePart {X : Type 0} (f : ℕ → List X) (ks : List ℕ) (x : X) : Type 0 where
  pub k : ℕ
  pub there : Contains ks k
  pub part : f k ≡ x ∷ []
  pub others : (j : ℕ) → Contains ks j → j ≢ k → f j ≡ []

pub flat_one : {X : Type 0} (f : ℕ → List X) (ks : List ℕ) (x : X) → flat_map f ks ≡ x ∷ [] → IsOnePart f ks x
flat_one f [] x e = cc
flat_one {X} f (k ∷ ks) x e = by_cases (f k) refl e (flat_one f ks x)
  where
    by_cases : (part : List X) → f k ≡ part → part ++ flat_map f ks ≡ x ∷ [] → (flat_map f ks ≡ x ∷ [] → IsOnePart f ks x) → IsOnePart f (k ∷ ks) x
    by_cases [] p g more =
        let found = more g in
        record {
          k = found.k;
          there = Contains-append_right (k ∷ []) ks found.k found.there;
          part = found.part;
          others = λ j there other. elim (here_or_later j k ks there) as (λ _. f j ≡ []) [ inl same ↦ ap f (sym same) ∙ p | inr after ↦ found.others j after other ];
        }
    by_cases (y ∷ []) p g more =
        let same : y ≡ x = cc in
        let rest : flat_map f ks ≡ [] = cc in
        record {
          k = k;
          there = first_of k ks;
          part = p ∙ ap (λ (z : X). z ∷ []) same;
          others = λ j there other. elim (here_or_later j k ks there) as (λ _. f j ≡ []) [ inl same ↦ absurd (other (sym same)) | inr after ↦ flat_none f ks j rest after ];
        }
    by_cases (y ∷ z ∷ part) p g more = cc
