use Rattle.std.proofs.Common.{◌≡◌, ℕ, ◌<◌, get_or, false}
use Rattle.bench_reader.specs.Tokens.{ends_name}
use Rattle.bench_reader.proofs.token.name_end.Given as goal

abbrev pub invariant-loop-i : goal.invariant-loop-i
invariant-loop-i l = (k : ℕ) → k < l.i → ends_name (get_or l.text k 0) ≡ false
