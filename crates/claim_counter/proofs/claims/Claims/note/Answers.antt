use Rattle.std.proofs.Common.{sym, ◌∙◌, arith, ap, refl}
use Rattle.claim_counter.specs.Views.{noting}
use Rattle.claim_counter.proofs.Notes.{learns}
use Rattle.claim_counter.proofs.Calls.{notes_me, steady_noted}
use Rattle.claim_counter.proofs.claims.Claims.note.Goals as goal

pub load-requires : goal.load-requires
load-requires g c =
    let told = c.self.invariant in
    let asked = rw (← c.self.view_is, ← c.seat.view_is) at c.requires.table in
    let todo = c.self.inside.table.shared.key in (
      asked.table,
      omega arith,
      learns g.V.Kept.list g.V.Kept.is_failed todo _ c.seat.inside.token.id c.seat.inside.token.me.0 c.seat.inside.token.me.1 (asked.todo ∙ sym told.0),
    )

pub overflow_add-seat-inside : goal.overflow_add-seat-inside
overflow_add-seat-inside g c =
    let told = c.self.invariant in
    let asked = rw (← c.self.view_is, ← c.seat.view_is) at c.requires.table in
    let held = rw (← c.seat.view_is) at c.requires.held in
    let drawn = rw (← c.seat.view_is) at c.requires.drawn in
    let room = c.load.ensures.2.1 held.0 c.args.drawn drawn.0 drawn.1 in
    let place = c.seat.invariant.place held.0 in
    let todo = asked.todo in
    omega arith

pub overflow_add-drawn : goal.overflow_add-drawn
overflow_add-drawn g c =
    let told = c.self.invariant in
    let asked = rw (← c.self.view_is, ← c.seat.view_is) at c.requires.table in
    let held = rw (← c.seat.view_is) at c.requires.held in
    let drawn = rw (← c.seat.view_is) at c.requires.drawn in
    let room = c.load.ensures.2.1 held.0 c.args.drawn drawn.0 drawn.1 in
    let todo = asked.todo in
    omega arith

pub store-requires : goal.store-requires
store-requires g c =
    let told = c.self.invariant in
    let asked = rw (← c.self.view_is, ← c.seat.view_is) at c.requires.table in
    let held = rw (← c.seat.view_is) at c.requires.held in
    let drawn = rw (← c.seat.view_is) at c.requires.drawn in
    let room = c.load.ensures.2.1 held.0 c.args.drawn drawn.0 drawn.1 in
    let place = c.seat.invariant.place held.0 in
    let todo = asked.todo in (
      c.load.ensures.0 ∙ asked.table,
      omega arith,
      notes_me g.V.Kept.list g.V.Kept.is_failed c.self.inside.table.shared.key _ c.load.new.seat.id _ c.args.drawn c.load.new.seat.me c.seat.inside.token.me c.load.ensures.2.0 held.0 drawn.0 drawn.1 (omega arith),
    )

pub overflow_add-seat : goal.overflow_add-seat
overflow_add-seat g c =
    let told = c.self.invariant in
    let asked = rw (← c.self.view_is, ← c.seat.view_is) at c.requires.table in
    let held = rw (← c.seat.view_is) at c.requires.held in
    let drawn = rw (← c.seat.view_is) at c.requires.drawn in
    let room = c.load.ensures.2.1 held.0 c.args.drawn drawn.0 drawn.1 in
    let place = c.seat.invariant.place held.0 in
    let todo = asked.todo in
    omega arith

pub invariant_of-seat : goal.invariant_of-seat
invariant_of-seat g c =
    let held = rw (← c.seat.view_is) at c.requires.held in
    let noted = c.store.ensures.2 c.args.drawn refl in
    steady_noted c.store.new.seat.me c.seat.inside.token.me.0 c.seat.inside.token.me.1 c.seat.inside.next c.args.drawn (noted ∙ ap (λ m. (noting m.0 c.args.drawn, m.1)) c.load.ensures.2.0) held.0 c.seat.invariant
