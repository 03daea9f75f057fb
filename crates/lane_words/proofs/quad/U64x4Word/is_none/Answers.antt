use Rattle.std.proofs.Common.{◌≡◌, ◌<◌, ◌+◌, ◌*◌, ◌/◌, ◌%◌, ◌^◌, get_or, ap₂, ◌∙◌, w64, rules, arith}
use Rattle.std.proofs.lemmas.Bool.{eqb-false, eqb-true}
use Rattle.std.specs.Int.{trailing_zeros}
use Rattle.fm_base.specs.Planes.{bit}
use Rattle.place_set.proofs.Masks.{lowest, zero_bit}
use Rattle.lane_words.proofs.Four.{joined, none_of_four, some_of_four}
use Rattle.lane_words.proofs.quad.U64x4Word.is_none.Goals as goal

pub returns-clause-none : goal.returns-clause-none
returns-clause-none c = λ none k lt.
    let within : k / 64 < 4 = omega (arith, lt) in
    zero_bit (get_or c.args.self (k / 64) 0) (k % 64) (none_of_four c.args.self (eqb-true (joined c.args.self) 0 none) (k / 64) within)

pub returns-clause-some : goal.returns-clause-some
returns-clause-some c = λ some.
    let found = some_of_four c.args.self (eqb-false (joined c.args.self) 0 some) in
    let i = found.0 in
    let within : i < 4 = found.1 in
    let word = get_or c.args.self i 0 in
    let fits : word < 2 ^ 64 = search rules in
    let first = lowest word found.2 fits in
    let k = trailing_zeros w64 word in
    let low : k < 64 = first.0 in
    let whole : (64 * i + k) / 64 ≡ i = omega (arith, low) in
    let rest : (64 * i + k) % 64 ≡ k = omega (arith, low) in
    (64 * i + k, omega (arith, low, within), ap₂ (λ n m. bit (get_or c.args.self n 0) m) whole rest ∙ first.1)
