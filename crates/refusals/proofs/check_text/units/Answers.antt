use Rattle.std.proofs.Common.{◌+◌, ◌<◌, ap, length, arith}
use Rattle.std.proofs.lemmas.List.Sums.{sum_by_more, sum_by-take-le}
use Rattle.refusals.proofs.CheckText.{no_part, part_units}
use Rattle.refusals.proofs.check_text.units.Goals as goal

pub overflow_add-units-in-loop-k : goal.overflow_add-units-in-loop-k
overflow_add-units-in-loop-k c =
    let lt : c.loop-k.k < length c.args.plan.now.rates.parts = omega (arith, c.loop-k-test.true, c.parts-k-end.ensures.count) in
    omega (
      arith,
      c.loop-k.invariant,
      ap part_units c.part-part.ensures,
      sum_by_more part_units c.args.plan.now.rates.parts c.loop-k.k no_part lt,
      sum_by-take-le part_units c.args.plan.now.rates.parts (c.loop-k.k + 1),
      c.parts-k-end.ensures.plan.rates.rates,
    )
