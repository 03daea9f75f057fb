use Rattle.std.proofs.Common.{◌≡◌, Bool, false, ap, ◌∙◌, ◌∷◌}
use Rattle.bench_reader.specs.declared.token.Token.{Token}
use Rattle.bench_reader.specs.Meant.{token_of}
use Rattle.bench_reader.specs.Tokens.{tokens_of}
use Rattle.bench_reader.proofs.Listing.{four_ways, is_opening, word_alone, word_broken, word_open}
use Rattle.bench_reader.proofs.statement.behind_word.Goals as goal

abbrev opens : Token → Bool
opens t = is_opening (token_of t)

pub returns-in-Opening : goal.returns-in-Opening
returns-in-Opening c =
    c.driver_says.ensures ∙ word_open c.args.out.now c.args.word.now (tokens_of c.args.rest.now) (tokens_of c.in-Some.next.rest.now)
    (c.in-Some.ensures.first ∙ ap (λ (t : Token). token_of t ∷ tokens_of c.in-Some.next.rest.now) c.in-Opening.is)

pub returns-in-Closing : goal.returns-in-Closing
returns-in-Closing c =
    word_broken c.args.out.now c.args.word.now (tokens_of c.args.rest.now) (tokens_of c.in-Some.next.rest.now) (token_of c.in-Some.next.token)
    (four_ways (opens c.in-Some.next.token ≡ false) c.in-Closing.is (λ e. ap opens e) (λ e. ap opens e) (λ e. ap opens e) (λ p. ap opens p.1)) c.in-Some.ensures.first

pub returns-in-None : goal.returns-in-None
returns-in-None c = word_alone c.args.out.now c.args.word.now (tokens_of c.args.rest.now) c.in-None.ensures.first
