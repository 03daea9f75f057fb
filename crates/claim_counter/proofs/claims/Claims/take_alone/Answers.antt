use Rattle.std.proofs.Common.{sym, ◌∙◌, arith, ap}
use Rattle.claim_counter.proofs.Lone.{takes_alone_me}
use Rattle.claim_counter.proofs.Calls.{took_place, slot_taken}
use Rattle.claim_counter.proofs.claims.Claims.take_alone.Goals as goal

pub fetch_add-seat-inside-requires : goal.fetch_add-seat-inside-requires
fetch_add-seat-inside-requires g c =
    let told = c.self.invariant in
    let asked = rw (← c.self.view_is, ← c.seat.view_is) at c.requires.table in
    let free = rw (← c.seat.view_is) at c.requires.free in
    let all = rw (← c.seat.view_is) at c.requires.whole in (
      asked.table,
      omega arith,
      takes_alone_me g.V.Kept.list g.V.Kept.is_failed c.self.inside.table.shared.key _ c.seat.inside.token.id c.seat.inside.token.me (c.seat.invariant.free free) (asked.todo ∙ sym told.0) asked.opened free all,
    )

pub exchange-requires : goal.exchange-requires
exchange-requires g c =
    let asked = rw (← c.self.view_is, ← c.seat.view_is) at c.requires.table in (
      c.fetch_add-seat-inside.ensures.0 ∙ asked.table,
      slot_taken g.V.Kept.list g.V.Kept.is_failed c.fetch_add-seat-inside.result c.seat.inside.token.me c.fetch_add-seat-inside.new.seat.me c.fetch_add-seat-inside.ensures.2,
    )

pub returns : goal.returns
returns g c =
    let was = c.seat.inside.token.me in
    let now = c.fetch_add-seat-inside.new.seat.me in
    let found = rw c.in-Some.is at c.exchange.ensures.2 in
    took_place g.V.Kept.list g.V.Kept.is_failed c.fetch_add-seat-inside.result was now now c.in-Some.value c.args.seat.now _ (sym (ap (λ p. p.view) c.seat.view_is)) (c.exchange.ensures.0 ∙ (c.fetch_add-seat-inside.ensures.0 ∙ ap (λ p. p.table) c.seat.view_is)) c.fetch_add-seat-inside.ensures.2 found (ap (λ m. m.0) c.exchange.ensures.3)
