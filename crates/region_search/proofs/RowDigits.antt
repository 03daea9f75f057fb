-- The digits of a row's number are the values of the nets that are read.
use Rattle.std.proofs.Common.{◌≡◌, ℕ, zero, suc, ◌+◌, ◌-◌, ◌*◌, ◌/◌, ◌%◌, ◌^◌, ◌<◌, ◌≤◌, Bool, true, false, List, [], ◌∷◌, length, map, refl, ap, sym, subst, ◌∙◌, zero-add, arith}
use Rattle.std.specs.Prelude.{◌==◌}
use Rattle.std.proofs.Math.Nat.{mul-le-mul_right}
use Rattle.std.proofs.lemmas.List.{get_or-map, length-map}
use Rattle.std.proofs.lemmas.Nat.Bits.{bit_at-suc, bit_at_lowest}
use Rattle.circuit.specs.Order.{net_at}
use Rattle.circuit.specs.Value.{bit_at}
use Rattle.circuit.specs.declared.parts.NetId.{NetId}
use Rattle.fm_base.specs.Planes.{bit}
use Rattle.pair_sets.proofs.Rows.{doubled}
use Rattle.pair_sets.specs.Choice.{row_from}
use Rattle.pair_sets.specs.Steps.{digit_behind}
use Rattle.region_search.specs.Truth.{row_of}

half : (b : Bool) (row : ℕ) → digit_behind b row / 2 ≡ row
half true row = omega arith
half false row = omega arith

digit_high : (b : Bool) (row j : ℕ) → bit (digit_behind b row) (suc j) ≡ bit row j
digit_high b row j = ap (λ n. n == 1) (bit_at-suc (digit_behind b row) j) ∙ ap (λ m. bit m j) (half b row)

digit_low : (b : Bool) (row : ℕ) → bit (digit_behind b row) 0 ≡ b
digit_low true row = let odd : (2 * row + 1) % 2 ≡ 1 = omega arith in ap (λ n. n == 1) (bit_at_lowest (2 * row + 1) ∙ odd)
digit_low false row = let even : (2 * row) % 2 ≡ 0 = omega arith in ap (λ n. n == 1) (bit_at_lowest (2 * row) ∙ even)

-- the digits that were there stand above those of more nets
above : (bits : List Bool) (row j : ℕ) → bit (row_from row bits) (length bits + j) ≡ bit row j
above [] row j = ap (bit row) (zero-add j)
above (b ∷ bits) row j =
    let same : length (b ∷ bits) + j ≡ length bits + suc j = omega arith in
    ap (bit (row_from (digit_behind b row) bits)) same ∙ above bits (digit_behind b row) (suc j) ∙ digit_high b row j

-- and the first of these is the highest
pub digit_of : (bits : List Bool) (row p : ℕ) → p < length bits → bit (row_from row bits) (length bits - 1 - p) ≡ bit_at bits p
digit_of [] row p lt = absurd (omega (arith, lt))
digit_of (b ∷ bits) row zero lt =
    let same : length (b ∷ bits) - 1 - zero ≡ length bits + 0 = omega arith in
    ap (bit (row_from (digit_behind b row) bits)) same ∙ above bits (digit_behind b row) 0 ∙ digit_low b row
digit_of (b ∷ bits) row (suc p) lt =
    let same : length (b ∷ bits) - 1 - suc p ≡ length bits - 1 - p = omega arith in
    ap (bit (row_from (digit_behind b row) bits)) same ∙ digit_of bits (digit_behind b row) p (omega (arith, lt))

-- a row's number is below that of all rows
row_below : (bits : List Bool) (row : ℕ) → row_from row bits + 1 ≤ (row + 1) * 2 ^ length bits
row_below [] row = omega arith
row_below (b ∷ bits) row =
    let rest = row_below bits (digit_behind b row) in
    let size : length (b ∷ bits) ≡ length bits + 1 = omega arith in
    let both = digit_room b (length bits) in
    subst (λ n. row_from (digit_behind b row) bits + 1 ≤ (row + 1) * 2 ^ n) (sym size) (omega (arith, rest, both))
  where
    digit_room : (b : Bool) (n : ℕ) → (digit_behind b row + 1) * 2 ^ n ≤ (row + 1) * 2 ^ (n + 1)
    digit_room true n = omega (arith, doubled row n)
    digit_room false n =
        let less : 2 * row + 1 ≤ 2 * row + 1 + 1 = omega arith in
        let fits : (2 * row + 1) * 2 ^ n ≤ (2 * row + 1 + 1) * 2 ^ n = mul-le-mul_right (2 ^ n) less in
        omega (arith, doubled row n, fits)

module _ (values : ℕ → Bool) (reads : List NetId) where
  -- THE DIGIT OF A NET is its value
  pub value_digit : (p : ℕ) → p < length reads → bit (row_of values reads) (length reads - 1 - p) ≡ values (net_at reads p).0
  value_digit p lt =
      let size : length (map (λ (net : NetId). values net.0) reads) ≡ length reads = length-map reads (λ (net : NetId). values net.0) in
      ap (λ n. bit (row_of values reads) (n - 1 - p)) (sym size)
      ∙ digit_of (map (λ (net : NetId). values net.0) reads) 0 p (omega (arith, size, lt))
      ∙ get_or-map (λ (net : NetId). values net.0) reads p (record { 0 = 0 }) false lt

  pub row_inside : row_of values reads < 2 ^ length reads
  row_inside =
      let size : length (map (λ (net : NetId). values net.0) reads) ≡ length reads = length-map reads (λ (net : NetId). values net.0) in
      let below = row_below (map (λ (net : NetId). values net.0) reads) 0 in
      let same : 2 ^ length (map (λ (net : NetId). values net.0) reads) ≡ 2 ^ length reads = ap (λ n. 2 ^ n) size in
      omega (arith, below, same)

-- how many rows there are
pub shifted : (n : ℕ) → n ≤ 6 → 1 * 2 ^ n % 4294967296 ≡ 2 ^ n
shifted zero le = refl
shifted (suc zero) le = refl
shifted (suc (suc zero)) le = refl
shifted (suc (suc (suc zero))) le = refl
shifted (suc (suc (suc (suc zero)))) le = refl
shifted (suc (suc (suc (suc (suc zero))))) le = refl
shifted (suc (suc (suc (suc (suc (suc zero)))))) le = refl
shifted (suc (suc (suc (suc (suc (suc (suc n))))))) le = absurd (omega (arith, le))
