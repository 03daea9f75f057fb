-- What a worker works with may go to another thread.
use denote.RattleType.{RattleType}
use denote.Param.Send.{IsSend, sendable}
use Rattle.std.proofs.Crossing.{crosses}
use Rattle.classifier.proofs.Sends.{simulator_send}
use Rattle.claim_counter.proofs.seat.Seat.TheSendSync as seat
use Rattle.campaign_board.proofs.headed.Headed.TheSendSync as headed
use Rattle.fm_shelf.specs.declared.shelf.Shelf.{Ghosts as ShelfGhosts}
use Rattle.campaign_board.specs.declared.board.Origin.{Ghosts as OriginGhosts}
use Rattle.campaign_workers.specs.contracts.worker.Worker.{the_row as worker_row}

pub worker_send : (F N : RattleType) (f : ShelfGhosts F.Denot) (n : OriginGhosts N.Denot) → IsSend F → IsSend (worker_row F N f n)
worker_send F N f n s = search (sendable, crosses, seat.the_send, headed.the_send, simulator_send) depth 20
