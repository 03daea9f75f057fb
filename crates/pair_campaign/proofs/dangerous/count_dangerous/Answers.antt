use Rattle.std.proofs.Common.{◌≡◌, ℕ, Bool, true, false, cond, ap, sym, ◌∙◌, arith}
use Rattle.pair_campaign.specs.PairPlanes.{pair_bit}
use Rattle.pair_campaign.proofs.Counting.{count_none}
use Rattle.pair_campaign.proofs.dangerous.count_dangerous.Goals as goal
use Rattle.pair_campaign.proofs.dangerous.count_dangerous.Goals.{then-has_pair_bit, else-has_pair_bit}
use Rattle.fm_base.proofs.Below.{count_below}

one_if : (b v : Bool) → b ≡ v → cond {A = ℕ} b 1 0 ≡ cond v 1 0
one_if b v e = ap (λ t. cond {A = ℕ} t 1 0) e

pub loop-pair-init : goal.loop-pair-init
loop-pair-init c = record { counted = count_none (pair_bit c.args.planes.now); few = omega arith }

pub loop-pair-preserved : goal.loop-pair-preserved
loop-pair-preserved c =
    let bits = pair_bit c.args.planes.now in
    let more = count_below bits c.loop-pair.pair in
    let inv = c.loop-pair.invariant in
    elim c.if-has_pair_bit.branch [
      | then-has_pair_bit w ↦ record { counted = omega (arith, w.dangerous-is, inv.counted, more, one_if (bits c.loop-pair.pair) true (sym c.has_pair_bit.ensures ∙ w.if-has_pair_bit.true)); few = omega (arith, w.dangerous-is, inv.few) }
      | else-has_pair_bit w ↦ record { counted = omega (arith, w.dangerous-is, inv.counted, more, one_if (bits c.loop-pair.pair) false (sym c.has_pair_bit.ensures ∙ w.if-has_pair_bit.false)); few = omega (arith, w.dangerous-is, inv.few) }
    ]
