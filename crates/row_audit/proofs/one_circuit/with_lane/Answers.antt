use Rattle.std.proofs.Common.{◌≡◌, ◌*◌, ◌%◌, ◌^◌, ◌<◌, ap, sym, ◌∙◌, arith, bit_or}
use Rattle.std.specs.Prelude.{if◌then◌else◌}
use Rattle.std.specs.Int.Bits.{or_zero_r}
use Rattle.std.proofs.Math.Nat.{mod-eq_of_lt}
use Rattle.std.proofs.Math.Pow.{pow-lt}
use Rattle.row_audit.proofs.one_circuit.with_lane.Goals as goal

pub returns-then-value : goal.returns-then-value
returns-then-value c =
    let lane = c.args.lane in
    let one : 1 * 2 ^ lane ≡ 2 ^ lane = omega arith in
    let small : 2 ^ lane < 18446744073709551616 = pow-lt {i = lane} {j = 64} c.requires in
    ap (bit_or c.args.plane) (ap (λ n. n % 18446744073709551616) one ∙ mod-eq_of_lt small)
    ∙ sym (ap (λ b. bit_or c.args.plane (if b then 2 ^ lane else 0)) c.if-value.true)

pub returns-else-value : goal.returns-else-value
returns-else-value c =
    sym (or_zero_r c.args.plane) ∙ sym (ap (λ b. bit_or c.args.plane (if b then 2 ^ c.args.lane else 0)) c.if-value.false)
