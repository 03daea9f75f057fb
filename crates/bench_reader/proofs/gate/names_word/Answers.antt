use Rattle.std.proofs.Common.{◌∙◌, arith}
use Rattle.bench_reader.proofs.Words.{other_length, other_letter, same_letters}
use Rattle.bench_reader.proofs.gate.names_word.Goals as goal

pub returns-then-name-capitals : goal.returns-then-name-capitals
returns-then-name-capitals c = other_length c.args.capitals.now c.args.name.now c.if-name-capitals.true

pub returns-then-to_ascii_uppercase-capital : goal.returns-then-to_ascii_uppercase-capital
returns-then-to_ascii_uppercase-capital c =
    other_letter c.args.capitals.now c.args.name.now c.loop-i.i (omega arith) (λ e. c.if-to_ascii_uppercase-capital.true (c.to_ascii_uppercase.ensures.value ∙ e))

pub returns : goal.returns
returns c = same_letters c.args.capitals.now c.args.name.now (omega arith) (λ k h. c.loop-i.invariant k (omega arith))
