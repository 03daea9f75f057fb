use Rattle.std.proofs.Common.{◌<◌, length, sym, arith}
use Rattle.std.proofs.lemmas.List.Sums.{position_or_len_is}
use Rattle.bench_reader.specs.Tokens.{ends_name}
use Rattle.bench_reader.proofs.token.name_end.Goals as goal

pub returns-then-ends_name-clause-place : goal.returns-then-ends_name-clause-place
returns-then-ends_name-clause-place c =
    let lt : c.loop-i.i < length c.args.text.now = omega arith in
    sym (position_or_len_is ends_name c.args.text.now c.loop-i.i 0 (omega arith) c.loop-i.invariant (λ h. sym c.if-ends_name.ensures))

pub returns-clause-place : goal.returns-clause-place
returns-clause-place c =
    sym (position_or_len_is ends_name c.args.text.now (length c.args.text.now) 0 (omega arith) (λ k h. c.loop-i.invariant k (omega arith)) (λ h. absurd (omega arith)))
