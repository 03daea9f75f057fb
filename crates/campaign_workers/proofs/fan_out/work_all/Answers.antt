use Rattle.std.proofs.Common.{sym, ap, ◌∙◌}
use denote.Param.{param}
use denote.Param.Send.{param_send}
use Rattle.campaign_workers.specs.declared.worker.Worker.{Worker}
use Rattle.campaign_workers.proofs.Sends.{worker_send}
use Rattle.campaign_workers.proofs.Hiring.{shares_each}
use Rattle.campaign_workers.proofs.fan_out.work_all.Goals as goal

pub for_each_mut-requires-send-T : goal.for_each_mut-requires-send-T
for_each_mut-requires-send-T g c = λ κs bounds.
    (let sent = param_send 1 _ (worker_send (param 1 g.row.F) (param 2 g.row.N) g.F.Shelf g.N.Origin c.type_bounds.send-F) in record { owned = sent.owned; leaving = λ k. sent.leaving k })

pub returns-clause-shares : goal.returns-clause-shares
returns-clause-shares g c =
    shares_each c.args.workers.now c.for_each_mut.new.s c.for_each_mut.auto.s (λ i d less.
    let k = (c.for_each_mut.ensures i d less).1 in
    ap (λ (w : Worker g.row.F.Denot g.row.N.Denot). w.seat.view.share) (sym k.left) ∙ (k.call.1 ∙ ap (λ (w : Worker g.row.F.Denot g.row.N.Denot). w.seat.view.share) k.argument_is))
