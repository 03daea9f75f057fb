use Rattle.std.proofs.Common.{◌≡◌, length}
use Rattle.std.specs.List.{list_any}
use Rattle.bench_reader.specs.Tokens.{is_wide_token, tokens_of}
use Rattle.bench_reader.proofs.token.has_wide.Given as goal

abbrev pub invariant-tokens : goal.invariant-tokens
invariant-tokens l = list_any is_wide_token (tokens_of l.rest) ≡ list_any is_wide_token (tokens_of l.text)

abbrev pub decreases-tokens : goal.decreases-tokens
decreases-tokens l = length l.rest
