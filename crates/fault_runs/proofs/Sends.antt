-- A draw may go to another thread.
use denote.Param.Send.{IsSend, sendable}
use Rattle.std.proofs.Crossing.{crosses}
use Rattle.differential_kernel.proofs.Sends.{lanes_send}
use Rattle.place_set.proofs.set.PlaceSet.TheSendSync as places
use Rattle.fault_runs.proofs.record.FaultRecords.TheSendSync as records
use Rattle.fault_runs.specs.contracts.draw.FaultDraw.{the_row as draw_row}

pub draw_send : IsSend draw_row
draw_send = search (sendable, crosses, lanes_send, places.the_send, records.the_send) depth 20
