use Rattle.std.proofs.Common.{arith}
use Rattle.fm_base.proofs.Decimals.{decimal_short}
use Rattle.wave_dump.proofs.words.write_moment.Goals as goal

pub put_dec-requires : goal.put_dec-requires
put_dec-requires g c = omega (arith, decimal_short c.from.result (omega (arith, c.from.ensures)))

pub put-requires-2 : goal.put-requires-2
put-requires-2 g c = omega (arith, decimal_short c.from.result (omega (arith, c.from.ensures)))
