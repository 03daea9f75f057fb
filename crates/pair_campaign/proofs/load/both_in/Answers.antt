use Rattle.std.proofs.Common.{◌+◌, ◌*◌, ◌<◌, length, ap, arith}
use Rattle.pair_list.specs.Chosen.{pair_count}
use Rattle.pair_campaign.proofs.Within.{first_within, second_within}
use Rattle.pair_campaign.proofs.load.both_in.Goals as goal

pub fault-first-requires : goal.fault-first-requires
fault-first-requires c =
    let n = c.from.result * c.from-2.result + c.from-3.result in
    let lt : n < pair_count c.args.pairs.now = omega (arith, c.if-number-from.false, c.from-4.ensures, c.count.ensures) in
    omega (arith, c.first.ensures, ap length c.faults-faults.ensures.value, first_within c.args.plan.now c.args.pairs.now n c.requires lt)

pub fault-second-requires : goal.fault-second-requires
fault-second-requires c =
    let n = c.from.result * c.from-2.result + c.from-3.result in
    let lt : n < pair_count c.args.pairs.now = omega (arith, c.if-number-from.false, c.from-4.ensures, c.count.ensures) in
    omega (arith, c.second.ensures, ap length c.faults-faults.ensures.value, second_within c.args.plan.now c.args.pairs.now n c.requires lt)
