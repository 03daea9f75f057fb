use Rattle.std.proofs.Common.{arith, ap, length}
use Rattle.std.specs.Prelude.{decimal}
use Rattle.fm_base.proofs.Decimals.{decimal_short}
use Rattle.always.proofs.words.few_word.Goals as goal

pub put_dec-requires : goal.put_dec-requires
put_dec-requires c = omega (arith, c.put.ensures.len, c.new-word.ensures.len, ap (λ n. length (decimal n)) c.from.ensures, decimal_short c.args.few (omega arith))
