use Rattle.std.proofs.Common.{ap, sym, refl, ◌∙◌}
use Rattle.bench_reader.specs.Meant.{begins_inked}
use Rattle.bench_reader.specs.Tokens.{tokens_of}
use Rattle.bench_reader.proofs.Tokenizing.{ink_found, rest_whole, white_passed}
use Rattle.bench_reader.proofs.token.inked.Goals as goal

pub loop-i-preserved : goal.loop-i-preserved
loop-i-preserved c = white_passed c.args.text.now c.loop-i.i _ c.loop-i-test.true refl (sym c.is_white_byte.ensures ∙ c.if-not-is_white_byte.false) c.loop-i.invariant

pub returns-then-not-is_white_byte-clause-ink : goal.returns-then-not-is_white_byte-clause-ink
returns-then-not-is_white_byte-clause-ink c =
    ap begins_inked (rest_whole c.args.text.now c.loop-i.i)
    ∙ ink_found c.args.text.now c.loop-i.i _ c.loop-i-test.true refl (sym c.is_white_byte.ensures ∙ c.if-not-is_white_byte.true)

pub returns-then-not-is_white_byte-clause-same : goal.returns-then-not-is_white_byte-clause-same
returns-then-not-is_white_byte-clause-same c = ap tokens_of (rest_whole c.args.text.now c.loop-i.i) ∙ c.loop-i.invariant
