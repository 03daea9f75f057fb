use Rattle.std.proofs.lemmas.List.{map-id}
use Rattle.blif_model.specs.Tokens.{texts_of}
use Rattle.blif_model.specs.Walk.{net_of}
use Rattle.blif_flatten.specs.Ports.{own_act}
use Rattle.blif_flatten.proofs.Numbering.{kept_visits, kept_whole, own_whole, ports_numbered}
use Rattle.blif_flatten.proofs.acts.port_act.Goals as goal

pub returns-in_ok-ids-in-Main : goal.returns-in_ok-ids-in-Main
unfolding net_of
returns-in_ok-ids-in-Main c =
    let own = c.main_act.ensures in
    let texts = texts_of c.args.tokens.now in
    let have = rw (c.in-Main.is, map-id texts) at c.in_ok-ids-in-Main.ensures in
    rw c.in-Main.is (kept_whole (own_act c.args.kind texts) c.main_act.result (own_whole c.args.kind texts)
    (ports_numbered (own_act c.args.kind) c.main_act.result have (own.names texts) own.ids own.act))

pub returns-in_ok-ids-in-Inner : goal.returns-in_ok-ids-in-Inner
returns-in_ok-ids-in-Inner c =
    rw (c.in-Inner.is, c.some_nets.ensures) (kept_visits _ c.in_ok-ids-in-Inner.ids (rw c.in-Inner.is at c.in_ok-ids-in-Inner.ensures))
