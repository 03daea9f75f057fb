use Rattle.std.proofs.Common.{◌≡◌, Bool, false, ap, ◌∙◌, ◌∷◌}
use Rattle.bench_reader.specs.declared.token.Token.{Token}
use Rattle.bench_reader.specs.Meant.{token_of}
use Rattle.bench_reader.specs.Tokens.{equals, opening, tokens_of}
use Rattle.bench_reader.proofs.Listing.{three_ways, goes_on, name_alone, name_broken, name_goes_on}
use Rattle.bench_reader.proofs.statement.behind_name.Goals as goal

abbrev carries : Token → Bool
carries t = goes_on (token_of t)

pub returns-in-Opening : goal.returns-in-Opening
returns-in-Opening c =
    c.behind_opening.ensures ∙ name_goes_on c.args.first.now (tokens_of c.args.rest.now) (tokens_of c.in-Some.next.rest.now) opening
    (c.in-Some.ensures.first ∙ ap (λ (t : Token). token_of t ∷ tokens_of c.in-Some.next.rest.now) c.in-Opening.is)

pub returns-in-Equals : goal.returns-in-Equals
returns-in-Equals c =
    c.behind_equals.ensures ∙ name_goes_on c.args.first.now (tokens_of c.args.rest.now) (tokens_of c.in-Some.next.rest.now) equals
    (c.in-Some.ensures.first ∙ ap (λ (t : Token). token_of t ∷ tokens_of c.in-Some.next.rest.now) c.in-Equals.is)

pub returns-in-Closing : goal.returns-in-Closing
returns-in-Closing c =
    name_broken c.args.first.now (tokens_of c.args.rest.now) (tokens_of c.in-Some.next.rest.now) (token_of c.in-Some.next.token)
    (three_ways (carries c.in-Some.next.token ≡ false) c.in-Closing.is (λ e. ap carries e) (λ e. ap carries e) (λ p. ap carries p.1)) c.in-Some.ensures.first

pub returns-in-None : goal.returns-in-None
returns-in-None c = name_alone c.args.first.now (tokens_of c.args.rest.now) c.in-None.ensures.first
