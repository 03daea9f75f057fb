use Rattle.std.proofs.Common.{arith}
use Rattle.fm_base.proofs.Decimals.{decimal_short}
use Rattle.metric_bounds.proofs.words.ratio_word.Goals as goal

pub put_dec-requires : goal.put_dec-requires
put_dec-requires c = omega (arith, decimal_short c.args.fraction.num (omega arith))

pub put-requires : goal.put-requires
put-requires c = omega (arith, decimal_short c.args.fraction.num (omega arith))

pub put_dec-requires-2 : goal.put_dec-requires-2
put_dec-requires-2 c = omega (arith, decimal_short c.args.fraction.num (omega arith), decimal_short c.args.fraction.den (omega arith))
