use Rattle.std.proofs.Common.{ap, sym, ◌∙◌, ◌∷◌}
use Rattle.bench_reader.specs.Statement.{statement_of}
use Rattle.bench_reader.specs.Tokens.{Token, name, opening, tokens_of}
use Rattle.std.specs.Prelude.{List}
use Rattle.bench_reader.proofs.Listing.{port_broken, port_ended, port_open}
use Rattle.bench_reader.proofs.statement.behind_opening.Goals as goal

pub returns-then-is_closing : goal.returns-then-is_closing
returns-then-is_closing c =
    c.port_says.ensures ∙ sym (ap (λ (ts : List Token). statement_of (name c.args.word.now ∷ opening ∷ ts)) c.in-Some.ensures.first
    ∙ port_ended c.args.word.now c.in-Some.next.name.now (tokens_of c.in-Some.next.rest.now) (sym c.is_closing.ensures ∙ c.if-is_closing.true))

pub returns-else-is_closing : goal.returns-else-is_closing
returns-else-is_closing c =
    sym (ap (λ (ts : List Token). statement_of (name c.args.word.now ∷ opening ∷ ts)) c.in-Some.ensures.first
    ∙ port_open c.args.word.now c.in-Some.next.name.now (tokens_of c.in-Some.next.rest.now) (sym c.is_closing.ensures ∙ c.if-is_closing.false))

pub returns-in-None : goal.returns-in-None
returns-in-None c = sym (port_broken c.args.word.now (tokens_of c.args.rest.now) c.in-None.ensures.first)
