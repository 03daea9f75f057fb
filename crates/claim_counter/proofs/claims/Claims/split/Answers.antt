use Rattle.std.proofs.Common.{arith}
use Rattle.claim_counter.proofs.Splits.{splits}
use Rattle.claim_counter.proofs.claims.Claims.split.Goals as goal

pub split_seat-token-requires : goal.split_seat-token-requires
split_seat-token-requires g c =
    let told = c.self.invariant in
    let asked = rw (← c.self.view_is, ← c.seat.view_is) at c.requires.table in
    let shares = rw (← c.seat.view_is) at c.requires.shares in
    let todo = c.self.inside.table.shared.key in (
      asked.table,
      omega arith,
      splits g.V.Kept.list g.V.Kept.is_failed todo c.seat.inside.token.id c.seat.inside.token.me.0 asked.opened shares.0 shares.1,
    )
