use Rattle.std.proofs.Common.{arith}
use Rattle.fm_base.proofs.Decimals.{decimal_short}
use Rattle.fm_shelf.proofs.lines.number_word.Goals as goal

pub put_dec-requires : goal.put_dec-requires
put_dec-requires c = omega (arith, decimal_short c.args.n (omega arith))
