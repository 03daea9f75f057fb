-- Numbers of rows, digit by digit.
use Rattle.std.proofs.Common.{◌≡◌, ℕ, ◌+◌, ◌*◌, ◌^◌, ◌<◌, ◌≤◌, zero, suc, Bool, true, false, ap, sym, ◌∙◌, arith, add-one}
use Rattle.std.proofs.Math.Nat.{le-mul_of_pos_right, mul-le-mul_right, mul_assoc, mul_comm, pow-suc}
use Rattle.std.proofs.lemmas.Nat.{pow_pos}
use Rattle.pair_sets.specs.Steps.{digit_behind}

pub doubled : (row n : ℕ) → (2 * row + 1 + 1) * 2 ^ n ≡ (row + 1) * 2 ^ (n + 1)
doubled row n =
    let twice : 2 * row + 1 + 1 ≡ (row + 1) * 2 = omega arith in
    ap (λ x. x * 2 ^ n) twice ∙ mul_assoc (row + 1) 2 (2 ^ n) ∙ ap (λ x. (row + 1) * x) (mul_comm 2 (2 ^ n) ∙ sym (pow-suc 2 n) ∙ ap (λ k. 2 ^ k) (sym (add-one n)))

-- a digit more leaves room for the others
pub room_for : (b : Bool) (row n : ℕ) → (row + 1) * 2 ^ (n + 1) ≤ 64 → (digit_behind b row + 1) * 2 ^ n ≤ 64
room_for true row n room = omega (arith, doubled row n, room)
room_for false row n room =
    let less : 2 * row + 1 ≤ 2 * row + 1 + 1 = omega arith in
    let fits : (2 * row + 1) * 2 ^ n ≤ (2 * row + 1 + 1) * 2 ^ n = mul-le-mul_right (2 ^ n) less in
    omega (arith, doubled row n, room, fits)

-- and a row with room is one of 64
pub row_small : (row n : ℕ) → (row + 1) * 2 ^ n ≤ 64 → row < 64
row_small row n room =
    let grows : row + 1 ≤ (row + 1) * 2 ^ n = le-mul_of_pos_right (row + 1) (pow_pos n) in
    omega (arith, room, grows)

-- six digits are a row of 64
pub six_room : (n : ℕ) → n ≤ 6 → 1 * 2 ^ n ≤ 64
six_room zero le = omega arith
six_room (suc zero) le = omega arith
six_room (suc (suc zero)) le = omega arith
six_room (suc (suc (suc zero))) le = omega arith
six_room (suc (suc (suc (suc zero)))) le = omega arith
six_room (suc (suc (suc (suc (suc zero))))) le = omega arith
six_room (suc (suc (suc (suc (suc (suc zero)))))) le = omega arith
six_room (suc (suc (suc (suc (suc (suc (suc n))))))) le = absurd (omega (arith, le))
