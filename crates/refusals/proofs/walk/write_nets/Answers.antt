use Rattle.std.proofs.Common.{◌∙◌, ap, append-nil, ◌∷◌}
use Rattle.std.proofs.lemmas.Result.{err_from_is_err_and}
use Rattle.fm_shelf.proofs.Sending.{sends_none, sends_as, sends_more, sends_torn}
use Rattle.refusals.specs.Said.{spaced_net}
use Rattle.refusals.proofs.walk.write_nets.Goals as goal

pub loop-net-init : goal.loop-net-init
loop-net-init g c = sends_none _

pub loop-net-preserved : goal.loop-net-preserved
loop-net-preserved g c =
    let e = ap (λ name. 32 ∷ name) (append-nil c.net_name.result.now ∙ c.net_name.ensures) in
    sends_more (spaced_net c.args.nets.now) c.args.walk.now c.loop-net.net-index _ c.loop-net-test.true c.loop-net.invariant (sends_as e c.in_ok-write_pieces.ensures)

pub returns-in_err-write_pieces : goal.returns-in_err-write_pieces
returns-in_err-write_pieces g c =
    let p = err_from_is_err_and c.from_residual.result c.from_residual.ensures.1 in
    let e = ap (λ name. 32 ∷ name) (append-nil c.net_name.result.now ∙ c.net_name.ensures) in
    rw p.1 (sends_torn (spaced_net c.args.nets.now) c.args.walk.now c.loop-net.net-index _ c.loop-net-test.true p.0 c.loop-net.invariant (sends_as e c.in_err-write_pieces.ensures))
