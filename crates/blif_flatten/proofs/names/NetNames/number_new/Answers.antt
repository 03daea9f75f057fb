use Rattle.blif_model.specs.Walk.{net_of}
use Rattle.blif_flatten.specs.Seen.{mentioned_name, scope_at}
use Rattle.blif_flatten.proofs.Numbering.{new_next, unseen_none}
use Rattle.blif_flatten.proofs.names.NetNames.number_new.Goals as goal

pub loop-token-init : goal.loop-token-init
loop-token-init c = rw c.new-ids.ensures (unseen_none c.args.self.now.index)

pub loop-token-preserved : goal.loop-token-preserved
loop-token-preserved c =
    rw c.in_ok-put_number.ensures
    (new_next (λ t. net_of (scope_at c.args.place.now) (mentioned_name c.args.how t)) c.args.tokens.now c.loop-token.token-index
    c.token-item.result c.loop-token-test.true c.token-item.is c.loop-token.invariant (rw c.mentioned.ensures at c.in_ok-new_number.ensures))
