use Rattle.std.proofs.Common.{◌≡◌, Bool, false, ap, sym, ◌∙◌, ◌∷◌}
use Rattle.bench_reader.specs.declared.token.Token.{Token}
use Rattle.bench_reader.specs.Meant.{token_of}
use Rattle.bench_reader.specs.Statement.{statement_of}
use Rattle.bench_reader.specs.Tokens.{tokens_of}
use Rattle.bench_reader.proofs.Listing.{four_ways, is_name, mark_alone, no_tokens}
use Rattle.bench_reader.proofs.statement.text_says.Goals as goal

abbrev names : Token → Bool
names t = is_name (token_of t)

pub returns-in-Name : goal.returns-in-Name
returns-in-Name c =
    c.behind_name.ensures ∙ ap statement_of (sym (c.in-Some.ensures.first ∙ ap (λ (t : Token). token_of t ∷ tokens_of c.in-Some.next.rest.now) c.in-Name.is))

pub returns-in-Opening : goal.returns-in-Opening
returns-in-Opening c =
    mark_alone (tokens_of c.args.text.now) (tokens_of c.in-Some.next.rest.now) (token_of c.in-Some.next.token)
    (four_ways (names c.in-Some.next.token ≡ false) c.in-Opening.is (λ e. ap names e) (λ e. ap names e) (λ e. ap names e) (λ e. ap names e)) c.in-Some.ensures.first

pub returns-in-None : goal.returns-in-None
returns-in-None c = no_tokens (tokens_of c.args.text.now) c.in-None.ensures.first
