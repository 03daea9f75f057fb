use Rattle.std.proofs.Common.{◌≡◌, ◌+◌, ◌≤◌, length}
use Rattle.std.specs.Option.{option_map}
use Rattle.bench_reader.specs.Statement.{more_names}
use Rattle.bench_reader.specs.Tokens.{tokens_of}
use Rattle.bench_reader.proofs.names.count_more.Given as goal

abbrev pub invariant-names : goal.invariant-names
invariant-names l = record {
  few : l.count + length l.rest ≤ 1 + length l.text;
  told : option_map (λ names. l.count + length names) (more_names (tokens_of l.rest)) ≡ option_map (λ names. 1 + length names) (more_names (tokens_of l.text));
}

abbrev pub decreases-names : goal.decreases-names
decreases-names l = length l.rest
