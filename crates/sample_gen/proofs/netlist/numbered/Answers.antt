use Rattle.std.proofs.Common.{arith}
use Rattle.fm_base.proofs.Decimals.{decimal_short}
use Rattle.sample_gen.proofs.netlist.numbered.Goals as goal

pub put_dec-requires : goal.put_dec-requires
put_dec-requires c = omega (arith, decimal_short c.from.result (omega arith))
