use Rattle.std.proofs.Common.{arith}
use Rattle.wave_dump.proofs.Codes.{code_ends, code_long, code_short}
use Rattle.wave_dump.proofs.words.+put_code.Goals as goal

pub returns-then-n-ge94-clause-code : goal.returns-then-n-ge94-clause-code
returns-then-n-ge94-clause-code t c =
    code_long c.args.line.now c.put.new.self c.put_code.new.line c.args.most c.args.n c.if-most-gt0.true c.if-n-ge94.true c.put.ensures.bytes c.put_code.ensures.code

pub returns-else-n-ge94-clause-code : goal.returns-else-n-ge94-clause-code
returns-else-n-ge94-clause-code t c =
    code_short c.args.line.now c.put.new.self c.args.most c.args.n c.if-most-gt0.true c.if-n-ge94.false c.put.ensures.bytes

pub returns-else-most-gt0-clause-code : goal.returns-else-most-gt0-clause-code
returns-else-most-gt0-clause-code t c = code_ends c.args.line.now c.args.most c.args.n (omega (arith, c.if-most-gt0.false))
