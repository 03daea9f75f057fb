use Rattle.std.proofs.Common.{ap, sym, ◌∙◌}
use Rattle.bench_reader.specs.Steps.{driver_line}
use Rattle.bench_reader.specs.Tokens.{tokens_of}
use Rattle.bench_reader.proofs.Listing.{counted_names, uncounted_names, driver_latch, driver_table}
use Rattle.bench_reader.proofs.statement.driver_says.Goals as goal

pub latch_says-requires : goal.latch_says-requires
latch_says-requires c = (counted_names (tokens_of c.args.ins.now) c.in-Some.count c.in-Some.ensures).1

pub table_says-requires : goal.table_says-requires
table_says-requires c = (counted_names (tokens_of c.args.ins.now) c.in-Some.count c.in-Some.ensures).1

pub returns-then-names_word : goal.returns-then-names_word
returns-then-names_word c =
    c.latch_says.ensures ∙ driver_latch c.args.out.now c.args.word.now (tokens_of c.args.ins.now) (counted_names (tokens_of c.args.ins.now) c.in-Some.count c.in-Some.ensures).0
    (sym c.names_word.ensures ∙ c.if-names_word.true)

pub returns-else-names_word : goal.returns-else-names_word
returns-else-names_word c =
    c.table_says.ensures ∙ driver_table c.args.out.now c.args.word.now (tokens_of c.args.ins.now) (counted_names (tokens_of c.args.ins.now) c.in-Some.count c.in-Some.ensures).0
    (sym c.names_word.ensures ∙ c.if-names_word.false)

pub returns-in-None : goal.returns-in-None
returns-in-None c = ap (driver_line c.args.out.now c.args.word.now) (sym (uncounted_names (tokens_of c.args.ins.now) c.in-None.ensures))
