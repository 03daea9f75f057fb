-- What is said of the items of a list whose bits are 1.
use Rattle.std.proofs.Common.{◌≡◌, ℕ, zero, suc, ◌+◌, ◌<◌, Bool, true, false, List, [], ◌∷◌, ◌++◌, length, get_or, refl, ap, sym, ◌∙◌, arith, filter}
use Rattle.std.specs.Prelude.{flat_map, count_by, if◌then◌else◌}
use Rattle.std.specs.List.{range_with_len}
use Rattle.std.proofs.lemmas.List.Sums.{length-filter}

-- item i has number a + i, and its bit is the test of it
pub AreBits : {X : Type 0} → (X → Bool) → (ℕ → Bool) → (ℕ → X) → X → ℕ → List X → Type 0
AreBits {X} test bits item d a xs = (i j : ℕ) → i < length xs → a + i ≡ j → (item j ≡ get_or xs i d) × (bits j ≡ test (get_or xs i d))

module _ {X : Type 0} (test : X → Bool) (bits : ℕ → Bool) (item : ℕ → X) (d : X) where
  bits_head : (a : ℕ) (x : X) (xs : List X) → AreBits test bits item d a (x ∷ xs) → (item a ≡ x) × (bits a ≡ test x)
  unfolding AreBits
  bits_head a x xs are = are zero a (omega arith) (omega arith)

  bits_tail : (a : ℕ) (x : X) (xs : List X) → AreBits test bits item d a (x ∷ xs) → AreBits test bits item d (a + 1) xs
  unfolding AreBits
  bits_tail a x xs are = λ i j lt e. are (suc i) j (omega (arith, lt)) (omega (arith, e))

  pub bits_from : (a : ℕ) (xs : List X) → ((i j : ℕ) → i < length xs → a + i ≡ j → (item j ≡ get_or xs i d) × (bits j ≡ test (get_or xs i d)))
      → AreBits test bits item d a xs
  unfolding AreBits
  bits_from a xs are = are

  one_piece : {Y : Type 0} (text : X → List Y) (x : X) (xs : List X) (n : ℕ) (passes : Bool) (rest : List Y) → item n ≡ x → bits n ≡ test x → test x ≡ passes
      → rest ≡ flat_map text (filter test xs)
      → (if bits n then text (item n) else []) ++ rest ≡ flat_map text (filter test (x ∷ xs))
  one_piece text x xs n true rest i b t e = rw (b, t, i) (ap (λ more. text x ++ more) e)
  one_piece text x xs n false rest i b t e = rw (b, t) e

  pub pieces : {Y : Type 0} (text : X → List Y) (a : ℕ) (xs : List X) → AreBits test bits item d a xs
      → flat_map (λ n. if bits n then text (item n) else []) (range_with_len a (length xs)) ≡ flat_map text (filter test xs)
  pieces text a [] are = refl
  pieces text a (x ∷ xs) are =
      let head = bits_head a x xs are in
      one_piece text x xs a (test x) (flat_map (λ n. if bits n then text (item n) else []) (range_with_len (a + 1) (length xs))) head.0 head.1 refl
      (pieces text (a + 1) xs (bits_tail a x xs are))

  one_kept : (x : X) (xs : List X) (n : ℕ) (ns : List ℕ) (passes : Bool) → bits n ≡ test x → test x ≡ passes
      → length (filter bits ns) ≡ length (filter test xs) → length (filter bits (n ∷ ns)) ≡ length (filter test (x ∷ xs))
  one_kept x xs n ns true b t e = rw (b, t) (ap suc e)
  one_kept x xs n ns false b t e = rw (b, t) e

  all_kept : (a : ℕ) (xs : List X) → AreBits test bits item d a xs → length (filter bits (range_with_len a (length xs))) ≡ length (filter test xs)
  all_kept a [] are = refl
  all_kept a (x ∷ xs) are =
      one_kept x xs a (range_with_len (a + 1) (length xs)) (test x) (bits_head a x xs are).1 refl (all_kept (a + 1) xs (bits_tail a x xs are))

  pub counted : (a : ℕ) (xs : List X) → AreBits test bits item d a xs → count_by bits (range_with_len a (length xs)) ≡ length (filter test xs)
  counted a xs are = sym (length-filter bits (range_with_len a (length xs))) ∙ all_kept a xs are
