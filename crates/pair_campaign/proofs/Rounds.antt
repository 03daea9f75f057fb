-- The planes of a worker, four in each round.
use Rattle.std.proofs.Common.{◌≡◌, ℕ, ◌+◌, ◌-◌, ◌*◌, ◌/◌, ◌%◌, ◌<◌, ◌≤◌, ap, arith}
use Rattle.std.specs.Int.{div_ceil}
use Rattle.std.proofs.Math.Nat.{add-mul, mul_assoc}
use Rattle.std.proofs.lemmas.Grind.{div_ceil_times}
use Rattle.std.proofs.lemmas.Nat.{div-add-mod', div_below, le-div, mul-le, row_fits}

-- a worker's plane that is none of an earlier round, nor of a later one, is that of some word
pub in_round : (q workers number round : ℕ) → number < workers → q % workers ≡ number
    → round * (4 * workers) ≤ q → q < round * (4 * workers) + 4 * workers
    → (word : ℕ) × (word < 4) × (round * (4 * workers) + number + word * workers ≡ q)
in_round q workers number round few mine late early = (word, below, is)
  where
    some : 0 < workers
    some = omega (arith, few)

    turn : ℕ
    turn = q / workers

    before : round * 4 ≤ turn
    before = le-div (round * 4) q workers some (omega (arith, mul_assoc round 4 workers, late))

    after : turn < round * 4 + 4
    after = div_below q workers (round * 4 + 4) some (omega (arith, add-mul (round * 4) 4 workers, mul_assoc round 4 workers, early))

    word : ℕ
    word = turn - round * 4

    below : word < 4
    below = omega (arith, before, after)

    whole : round * 4 + word ≡ turn
    whole = omega (arith, before)

    is : round * (4 * workers) + number + word * workers ≡ q
    is =
        let rows : (round * 4 + word) * workers ≡ turn * workers = ap (λ n. n * workers) whole in
        omega (arith, rows, add-mul (round * 4) word workers, mul_assoc round 4 workers, div-add-mod' q workers, mine)

-- each round begins at a plane
pub begins_within : (planes stride round : ℕ) → 0 < stride → round < div_ceil planes stride → round * stride < planes
begins_within planes stride round some lt =
    let same : stride ≤ stride = omega arith in
    let fits : round * stride + stride ≤ div_ceil planes stride * stride = row_fits round stride (div_ceil planes stride) stride lt same in
    let least = (div_ceil_times planes stride some).1 in
    omega (arith, fits, least)

-- behind the last round there is no plane
pub ends_behind : (planes stride round : ℕ) → 0 < stride → div_ceil planes stride ≤ round → planes ≤ round * stride
ends_behind planes stride round some le =
    let same : stride ≤ stride = omega arith in
    let fits : div_ceil planes stride * stride ≤ round * stride = mul-le (div_ceil planes stride) stride round stride le same in
    let most = (div_ceil_times planes stride some).0 in
    omega (arith, fits, most)
