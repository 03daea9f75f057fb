use denote.Param.Send.{IsSend, param_send, sendable}
use Rattle.std.proofs.Common.{◌≡◌, List, length, ap, sym, subst, ◌∙◌, arith}
use Rattle.std.proofs.Crossing.{crosses}
use Rattle.batch_crew.specs.Crew.{AreReady}
use Rattle.fm_base.proofs.Lists.{written_whole}
use Rattle.differential_kernel.proofs.Sends.{lanes_send}
use Rattle.place_set.proofs.set.PlaceSet.TheSendSync as places
use Rattle.fault_runs.proofs.record.FaultRecords.TheSendSync as records
use Rattle.latency_table.proofs.latency.Latency.TheSendSync as latency
use Rattle.latency_table.specs.contracts.worker.LatencyWorker.{the_row as worker_row}
use Rattle.latency_table.specs.declared.worker.LatencyWorker.{LatencyWorker}
use Rattle.latency_table.specs.Work.{HasKept, HaveKept}
use Rattle.latency_table.proofs.fan_out.simulated.Goals as goal

-- a worker may go to another thread
worker_send : IsSend worker_row
worker_send = search (sendable, crosses, lanes_send, places.the_send, records.the_send, latency.the_send) depth 30 fits 8000

pub work_all-requires-send-A-Worker : goal.work_all-requires-send-A-Worker
work_all-requires-send-A-Worker g c κs within =
    (let sent = param_send 2 _ worker_send in record { owned = sent.owned; leaving = λ k. sent.leaving k })

pub work_all-requires-clause-ready : goal.work_all-requires-clause-ready
work_all-requires-clause-ready g c κs within =
    let has_done = HasKept c.args.plan.now c.args.bench.now in
    subst (λ (crew : List LatencyWorker). AreReady has_done (length crew) crew) (sym c.as_mut_slice.ensures.value)
    (subst (λ n. AreReady has_done n c.in_ok-crew.crew.items) (sym c.in_ok-crew.ensures.count) c.in_ok-crew.ensures.ready)

pub returns : goal.returns
returns g c =
    let p = c.args.plan.now in
    let old = c.in_ok-crew.crew in
    let new : List LatencyWorker = c.work_all.new.crew in
    let count : length new ≡ length old.items = c.work_all.ensures.count ∙ ap length c.as_mut_slice.ensures.value in
    let workers : length new ≡ c.args.workers = count ∙ c.in_ok-crew.ensures.count in
    subst (λ (crew : List LatencyWorker). HaveKept p crew) (sym (written_whole new old.items old.len count old.ok.0))
    (record {
      bench = c.args.bench.now;
      some = omega (arith, workers, c.requires.workers.0);
      each = c.work_all.ensures.worked;
    })
