use Rattle.std.proofs.Common.{sym, ◌∙◌, ap}
use mathlib.Core.Option.{some, some-injective}
use Rattle.claim_counter.proofs.Closing.{closes}
use Rattle.claim_counter.proofs.Calls.{closed_of}
use Rattle.claim_counter.proofs.claims.Claims.close.Goals as goal

pub unreachable-requires : goal.unreachable-requires
unreachable-requires g c =
    let asked = c.requires.table in
    let final = rw c.into_token.ensures.1 at c.close_with-closed.ensures.values.2 in
    let shown = closes g.V.Kept.list g.V.Kept.is_failed c.self.inside.table.shared.key c.into_token.result.id c.args.seat.view _ _ c.requires.whole asked.opened c.requires.free final in
    c.in_default.not-Some shown.value (some-injective _ _ (sym c.take-slot.ensures.value ∙ shown.home))

pub returns : goal.returns
returns g c =
    let asked = c.requires.table in
    let told = c.self.invariant in
    let final = rw c.into_token.ensures.1 at c.close_with-closed.ensures.values.2 in
    let shown = closes g.V.Kept.list g.V.Kept.is_failed c.self.inside.table.shared.key c.into_token.result.id c.args.seat.view _ _ c.requires.whole asked.opened c.requires.free final in
    closed_of g.V.Kept.list g.V.Kept.is_failed c.self.inside.table.shared.key c.args.self.todo c.args.seat.view _ c.in-Some.value shown (c.take-slot.ensures.value ∙ ap some c.in-Some.is) (told.0 ∙ ap (λ n. n.todo) c.self.view_is)
