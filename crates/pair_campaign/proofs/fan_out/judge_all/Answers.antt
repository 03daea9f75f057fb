use denote.Param.Send.{IsSend, param_send, sendable}
use Rattle.std.proofs.Common.{◌≡◌, length, sym, ◌∙◌, arith}
use Rattle.std.proofs.Crossing.{crosses}
use Rattle.classifier.proofs.Sends.{simulator_send}
use Rattle.pair_campaign.specs.contracts.worker.PairWorker.{the_row as worker_row}
use Rattle.pair_campaign.proofs.Gathering.{put_together}
use Rattle.pair_campaign.proofs.fan_out.judge_all.Goals as goal

-- a worker may go to another thread
worker_send : IsSend worker_row
worker_send = search (sendable, crosses, simulator_send) depth 20

pub work_all-requires-send-A-Worker : goal.work_all-requires-send-A-Worker
work_all-requires-send-A-Worker g c = λ κs within.
    (let sent = param_send 2 _ worker_send in record { owned = sent.owned; leaving = λ k. sent.leaving k })

pub put_together-requires-clause-room : goal.put_together-requires-clause-room
put_together-requires-clause-room g c = λ w d lt. (c.work_all.ensures.worked w d lt).equipped.room ∙ sym c.requires.room

pub returns : goal.returns
returns g c =
    let same : length c.work_all.new.crew ≡ length c.args.workers.now = c.work_all.ensures.count in
    let rounds = c.args.rounds.now in
    put_together rounds.plan.now rounds.pairs.now rounds.bench.now c.work_all.new.crew c.put_together.new.planes (omega (arith, same, c.requires.some))
    (c.put_together.auto.planes ∙ c.requires.room) c.work_all.ensures.worked (λ q d lt. c.put_together.ensures q d (omega (arith, lt, c.put_together.auto.planes)))
