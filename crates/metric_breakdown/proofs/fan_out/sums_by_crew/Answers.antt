use denote.Param.Send.{IsSend, param_send, sendable}
use Rattle.std.proofs.Crossing.{crosses}
use Rattle.metric_sums.proofs.Sums.TheSendSync as sums
use Rattle.differential_kernel.proofs.Sends.{lanes_send}
use Rattle.place_set.proofs.set.PlaceSet.TheSendSync as places
use Rattle.fault_runs.proofs.record.FaultRecords.TheSendSync as records
use Rattle.metric_breakdown.specs.contracts.worker.Worker.{the_row as worker_row}
use Rattle.metric_breakdown.proofs.fan_out.sums_by_crew.Goals as goal

-- a worker may go to another thread
worker_send : IsSend worker_row
worker_send = search (sendable, crosses, lanes_send, places.the_send, records.the_send, sums.the_send) depth 30 fits 8000

pub work_all-requires-send-A-Worker : goal.work_all-requires-send-A-Worker
work_all-requires-send-A-Worker g c κs within =
    (let sent = param_send 2 _ worker_send in record { owned = sent.owned; leaving = λ k. sent.leaving k })
