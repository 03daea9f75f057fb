use Rattle.std.proofs.Common.{sym}
use Rattle.bench_reader.specs.Tokens.{tokens_of}
use Rattle.bench_reader.proofs.Listing.{driver_broken}
use Rattle.bench_reader.proofs.statement.behind_equals.Goals as goal

pub returns-in-None : goal.returns-in-None
returns-in-None c = sym (driver_broken c.args.out.now (tokens_of c.args.rest.now) c.in-None.ensures.first)
