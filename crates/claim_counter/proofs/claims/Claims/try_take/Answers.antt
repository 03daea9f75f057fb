use Rattle.std.proofs.Common.{sym, ◌∙◌, arith, ap}
use Rattle.claim_counter.proofs.Calls.{takes_me, took_of, took_place, slot_taken}
use Rattle.claim_counter.proofs.claims.Claims.try_take.Goals as goal

pub compare_exchange-requires : goal.compare_exchange-requires
compare_exchange-requires g c =
    let told = c.self.invariant in
    let asked = rw (← c.self.view_is, ← c.seat.view_is) at c.requires.table in
    let free = rw (← c.seat.view_is) at c.requires.free in
    let todo = c.self.inside.table.shared.key in (
      asked.table,
      omega arith,
      takes_me g.V.Kept.list g.V.Kept.is_failed todo _ c.seat.inside.token.id c.args.old c.seat.inside.token.me (c.seat.invariant.free free) c.requires.even (asked.todo ∙ sym told.0) asked.opened free asked.share,
    )

pub exchange-requires : goal.exchange-requires
exchange-requires g c =
    let asked = rw (← c.self.view_is, ← c.seat.view_is) at c.requires.table in
    let slots = c.self.inside.table.shared.table_id.slots in
    let took = took_of g.V.Kept.list g.V.Kept.is_failed slots c.compare_exchange.result c.args.old c.seat.inside.token.me c.compare_exchange.new.seat.me c.if-compare_exchange-old.false c.compare_exchange.ensures.2 in (
      c.compare_exchange.ensures.0 ∙ asked.table,
      slot_taken g.V.Kept.list g.V.Kept.is_failed c.compare_exchange.result c.seat.inside.token.me c.compare_exchange.new.seat.me took,
    )

pub returns-clause-some : goal.returns-clause-some
returns-clause-some g c =
    let slots = c.self.inside.table.shared.table_id.slots in
    let was = c.seat.inside.token.me in
    let now = c.compare_exchange.new.seat.me in
    let took = took_of g.V.Kept.list g.V.Kept.is_failed slots c.compare_exchange.result c.args.old was now c.if-compare_exchange-old.false c.compare_exchange.ensures.2 in
    let found = rw c.in-Some.is at c.exchange.ensures.2 in
    took_place g.V.Kept.list g.V.Kept.is_failed c.compare_exchange.result was now now c.in-Some.value c.args.seat.now _ (sym (ap (λ p. p.view) c.seat.view_is)) (c.exchange.ensures.0 ∙ (c.compare_exchange.ensures.0 ∙ ap (λ p. p.table) c.seat.view_is)) took found (ap (λ m. m.0) c.exchange.ensures.3)
