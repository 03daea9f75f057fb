use Rattle.std.proofs.Common.{sym, ◌∙◌, arith}
use Rattle.claim_counter.proofs.Draws.{draws}
use Rattle.claim_counter.proofs.claims.Claims.draw.Goals as goal

pub fetch_add-found-requires : goal.fetch_add-found-requires
fetch_add-found-requires g c =
    let told = c.self.invariant in
    let asked = rw (← c.self.view_is, ← c.seat.view_is) at c.requires.table in
    let first = rw (← c.seat.view_is) at c.requires.first in
    let todo = c.self.inside.table.shared.key in (
      asked.table,
      omega arith,
      draws g.V.Kept.list g.V.Kept.is_failed todo _ c.seat.inside.token.id c.seat.inside.token.me.0 c.seat.inside.token.me.1 (omega arith) (asked.todo ∙ sym told.0) asked.share first,
    )
