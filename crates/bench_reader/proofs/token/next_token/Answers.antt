use Rattle.std.proofs.Common.{refl}
use Rattle.bench_reader.specs.Meant.{token_of}
use Rattle.bench_reader.proofs.Tokenizing.{nothing_left, mark_ahead, name_ahead}
use Rattle.bench_reader.proofs.token.next_token.Goals as goal

pub returns-in-empty-clause-first : goal.returns-in-empty-clause-first
returns-in-empty-clause-first c = nothing_left c.args.text.now c.inked-ink.result.now c.inked-ink.ensures.same c.in-empty.len_below

pub returns-in-Some-clause-first : goal.returns-in-Some-clause-first
returns-in-Some-clause-first c =
    mark_ahead c.args.text.now c.inked-ink.result.now _ (token_of c.in-Some.token) c.inked-ink.ensures.same c.inked-ink.ensures.ink c.in-len1-up.len_at_least refl c.in-Some.ensures

pub name_next-requires : goal.name_next-requires
name_next-requires c = name_ahead c.inked-ink.result.now _ c.inked-ink.ensures.ink c.in-len1-up.len_at_least refl c.in-None.ensures
