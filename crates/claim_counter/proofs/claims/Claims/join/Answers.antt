use Rattle.std.proofs.Common.{◌∙◌, arith}
use Rattle.claim_counter.proofs.Joins.{joins}
use Rattle.claim_counter.proofs.claims.Claims.join.Goals as goal

pub join_seat-requires : goal.join_seat-requires
join_seat-requires g c =
    let told = c.self.invariant in
    let asked = rw (← c.self.view_is, ← c.seat.view_is) at c.requires.table.0 in
    let theirs = rw (← c.self.view_is) at c.requires.table.1 in
    let token = c.into_token.ensures in
    let todo = c.self.inside.table.shared.key in (
      asked.table,
      token.0 ∙ theirs.table,
      token.2,
      omega arith,
      rw token.1 (joins g.V.Kept.list g.V.Kept.is_failed todo c.seat.inside.token.id _ c.seat.inside.token.me.0 c.args.other.view asked.opened asked.share c.requires.free),
    )
