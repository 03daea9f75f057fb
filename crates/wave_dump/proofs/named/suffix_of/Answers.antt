use Rattle.std.proofs.Common.{arith}
use Rattle.fm_base.proofs.Decimals.{decimal_short}
use Rattle.wave_dump.proofs.named.suffix_of.Goals as goal

pub put_dec-requires : goal.put_dec-requires
put_dec-requires c = omega (arith, decimal_short c.from.result (omega (arith, c.from.ensures)))

pub put_dec-requires-in-Pulse : goal.put_dec-requires-in-Pulse
put_dec-requires-in-Pulse c = omega (arith, decimal_short c.from-in-Pulse.result (omega (arith, c.from-in-Pulse.ensures)))
