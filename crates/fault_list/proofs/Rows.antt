-- Lists that are made of rows of one length: how long they are, and what stands at a place.
use Rattle.std.proofs.Common.{◌≡◌, ℕ, zero, suc, ◌+◌, ◌*◌, ◌-◌, ◌/◌, ◌%◌, ◌<◌, List, length, get_or, ap, sym, ◌∙◌, arith, length-append}
use Rattle.std.specs.List.{flat_map, range_with_len}
use Rattle.std.proofs.Math.Nat.{div-lt_iff_lt-mul, mod-lt}
use Rattle.std.proofs.lemmas.Nat.{div-add-mod'}
use Rattle.std.proofs.lemmas.List.{get_or_append_left, get_or-append_right}

pub some_wide : (n i width : ℕ) → i < n * width → 0 < width
some_wide n i zero lt = absurd (omega arith)
some_wide n i (suc width) lt = omega arith

module _ {X : Type 0} (row : ℕ → List X) (width : ℕ) (wide : (n : ℕ) → length (row n) ≡ width) where
  pub rows_length : (a n : ℕ) → length (flat_map row (range_with_len a n)) ≡ n * width
  rows_length a zero = omega arith
  rows_length a (suc n) =
      length-append (row a) (flat_map row (range_with_len (a + 1) n))
      ∙ (let here = wide a in let more = rows_length (a + 1) n in omega arith)

  rows_at : (a n q r : ℕ) (d : X) → q < n → r < width → get_or (flat_map row (range_with_len a n)) (q * width + r) d ≡ get_or (row (a + q)) r d
  rows_at a zero q r d lt within = absurd (omega arith)
  rows_at a (suc n) zero r d lt within =
      let here : zero * width + r ≡ r = omega arith in
      let same : a ≡ a + 0 = omega arith in
      ap (λ k. get_or (flat_map row (range_with_len a (suc n))) k d) here
      ∙ get_or_append_left (row a) (flat_map row (range_with_len (a + 1) n)) d r (let e = wide a in omega arith)
      ∙ ap (λ k. get_or (row k) r d) same
  rows_at a (suc n) (suc q) r d lt within =
      let rest : suc q * width + r - width ≡ q * width + r = omega arith in
      let same : a + 1 + q ≡ a + suc q = omega arith in
      get_or-append_right (row a) (flat_map row (range_with_len (a + 1) n)) width (suc q * width + r) d (wide a) (omega arith)
      ∙ ap (λ k. get_or (flat_map row (range_with_len (a + 1) n)) k d) rest
      ∙ rows_at (a + 1) n q r d (omega arith) within ∙ ap (λ k. get_or (row k) r d) same

  pub rows_number : (n i : ℕ) (d : X) → i < n * width → get_or (flat_map row (range_with_len 0 n)) i d ≡ get_or (row (i / width)) (i % width) d
  rows_number n i d lt =
      let some : 0 < width = some_wide n i width lt in
      let row_is : i / width < n = (div-lt_iff_lt-mul some).1 lt in
      let split : i ≡ i / width * width + i % width = sym (div-add-mod' i width) in
      let same : 0 + i / width ≡ i / width = omega arith in
      ap (λ k. get_or (flat_map row (range_with_len 0 n)) k d) split
      ∙ rows_at 0 n (i / width) (i % width) d row_is (mod-lt i some) ∙ ap (λ k. get_or (row k) (i % width) d) same
