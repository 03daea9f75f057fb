use Rattle.std.proofs.Common.{◌≡◌, ◌+◌, ◌-◌, ◌<◌, ◌^◌, ◌++◌, length}
use Rattle.std.specs.Option.{option_map_or}
use Rattle.bench_reader.specs.Marks.{ids_from, mention_all}
use Rattle.bench_reader.specs.Meant.{listed, names_ahead}
use Rattle.bench_reader.specs.Tokens.{tokens_of}
use Rattle.bench_reader.proofs.gather.mention_names.Given as goal

abbrev pub invariant-names : goal.invariant-names
invariant-names l = record {
  room : length l.nets.names + length (names_ahead l.ahead) < 2 ^ 32 - 1;
  nets : mention_all l.line l.nets (names_ahead l.ahead) ≡ mention_all l.line l.initial.nets (listed (tokens_of l.ins));
  ids : l.ids ++ ids_from l.line l.nets (names_ahead l.ahead) ≡ ids_from l.line l.initial.nets (listed (tokens_of l.ins));
}

abbrev pub decreases-names : goal.decreases-names
decreases-names l = option_map_or (λ next. 1 + length next.rest.now) l.ahead 0
