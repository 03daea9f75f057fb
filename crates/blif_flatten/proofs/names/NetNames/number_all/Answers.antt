use Rattle.blif_model.specs.Walk.{net_of}
use Rattle.blif_flatten.specs.Seen.{scope_at}
use Rattle.blif_flatten.proofs.Numbering.{numbered_next}
use Rattle.blif_flatten.proofs.names.NetNames.number_all.Goals as goal

pub loop-token-preserved : goal.loop-token-preserved
loop-token-preserved c =
    rw c.in_ok-push.ensures.ok
    (numbered_next (net_of (scope_at c.args.place.now)) c.args.tokens.now c.loop-token.token-index
    c.token-item.result c.loop-token-test.true c.token-item.is c.loop-token.invariant c.in_ok-number.ensures)
