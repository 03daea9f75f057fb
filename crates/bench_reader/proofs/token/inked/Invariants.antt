use Rattle.std.proofs.Common.{◌≡◌, drop}
use Rattle.bench_reader.specs.Tokens.{tokens_of}
use Rattle.bench_reader.proofs.token.inked.Given as goal

abbrev pub invariant-loop-i : goal.invariant-loop-i
invariant-loop-i l = tokens_of (drop l.i l.text) ≡ tokens_of l.text
