use Rattle.std.proofs.Common.{◌≡◌, ℕ, ◌∙◌, arith, ap, List, ◌∷◌, Some, Option, cond, Bool}
use Rattle.atomic_table.specs.Table.{rest}
use Rattle.claim_counter.proofs.Calls.{gives_me}
use Rattle.claim_counter.proofs.claims.Claims.give.Goals.{then-failed, else-failed}
use Rattle.claim_counter.proofs.claims.Claims.give.Goals as goal

pub store-requires : goal.store-requires
store-requires g c =
    let told = c.self.invariant in
    let asked = rw (← c.self.view_is, ← c.seat.view_is) at c.requires.table in
    let held = rw (← c.seat.view_is) at c.requires.held in
    let list = rw (← c.seat.view_is) at c.requires.list in
    let failed = rw (← c.seat.view_is) at c.requires.failed in
    let out = c.exchange-away.ensures in
    let v = c.seat.inside.token.me.0 in
    let me = out.3 ∙ ap (λ (l : List (ℕ × Option g.row.V.Denot)). (v, (0, Some c.args.value) ∷ rest l)) (c.seat.invariant.held held) in
    let word : c.if-failed.word ≡ cond (g.V.Kept.is_failed c.args.value) 2 0 = elim c.if-failed.branch [
      | then-failed w ↦ w.word-is ∙ ap (λ (b : Bool). cond b 2 0) w.if-failed.ensures
      | else-failed w ↦ w.word-is ∙ ap (λ (b : Bool). cond b 2 0) w.if-failed.ensures
    ] in (
      out.0 ∙ asked.table,
      omega arith,
      gives_me g.V.Kept.list g.V.Kept.is_failed c.self.inside.table.shared.key _ c.exchange-away.new.seat.id c.if-failed.word c.exchange-away.new.seat.me v c.args.value me word held list failed,
    )
