use Rattle.std.proofs.Common.{◌≡◌, ◌*◌, ◌%◌, ◌^◌, ◌<◌, true, sym, ◌∙◌, arith}
use Rattle.std.specs.Prelude.{nat_lt}
use Rattle.std.proofs.lemmas.Nat.{pow_below}
use Rattle.std.proofs.lemmas.Bool.Decides.{nat_tests}
use Rattle.pair_campaign.proofs.Masking.{bit_of_first}
use Rattle.pair_campaign.proofs.load.first_lanes.Goals as goal

pub returns-then-count-from : goal.returns-then-count-from
returns-then-count-from c k lane =
    let count = c.args.count in
    let few : count < 64 = omega (arith, c.if-count-from.true, c.from.ensures) in
    let small : 2 ^ count < 2 ^ 64 = pow_below count 64 few in
    let same : 1 * 2 ^ count % 18446744073709551616 ≡ 2 ^ count = omega (arith, small) in
    rw same (bit_of_first count k)

pub returns-else-count-from : goal.returns-else-count-from
returns-else-count-from c k lane =
    let here : nat_lt k 64 ≡ true = grind (arith, nat_tests, lane) in
    let there : nat_lt k c.args.count ≡ true = grind (arith, nat_tests, lane, c.if-count-from.false, c.from.ensures) in
    bit_of_first 64 k ∙ here ∙ sym there
