use Rattle.std.proofs.Common.{ℕ, sym, ◌∙◌, arith, ap, []}
use Rattle.claim_counter.specs.Views.{opening_view}
use Rattle.claim_counter.proofs.Opening.{starts}
use Rattle.claim_counter.proofs.Calls.{opens_me}
use Rattle.claim_counter.proofs.claims.Claims.new.Goals as goal

pub vacant-requires : goal.vacant-requires
vacant-requires g c =
    let made = c.in_ok-words.ensures in
    starts g.V.Kept.list g.V.Kept.is_failed c.args.todo c.as_slice.result.now (c.as_slice.ensures.value ∙ made.items)

pub compare_exchange-requires : goal.compare_exchange-requires
compare_exchange-requires g c =
    let made = c.in_ok-table.ensures in
    let len = c.in_ok-words.ensures.len in (
      made.2,
      omega (arith, made.0, c.as_slice.ensures.len, len),
      opens_me g.V.Kept.list g.V.Kept.is_failed c.in_ok-table.table.shared.key _ c.in_ok-table.token.id c.in_ok-table.token.me (made.4 ∙ ap (λ (k : ℕ). (opening_view k, [])) (sym made.5)),
    )
