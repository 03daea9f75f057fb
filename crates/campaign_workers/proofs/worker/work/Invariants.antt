use Rattle.std.proofs.Common.{◌≡◌, length}
use Rattle.claim_counter.specs.Crews.{MayDraw}
use Rattle.claim_counter.proofs.Undrawn.{undrawn}
use Rattle.campaign_board.specs.Missing.{batches_missing}
use Rattle.classifier.specs.Simulator.{simulator_of}
use Rattle.campaign_workers.proofs.worker.work.Given as goal

abbrev pub invariant-rounds : goal.invariant-rounds
invariant-rounds g l = record {
  ready : MayDraw l.shared l.worker.seat;
  simulator : l.worker.simulator ≡ simulator_of l.bench l.plan.settings.ftti;
  share : l.worker.seat.view.share ≡ l.initial.worker.seat.view.share;
}

-- a full round leaves fewer batches that the seat may still draw
abbrev pub decreases-rounds : goal.decreases-rounds
decreases-rounds g l = undrawn (length (batches_missing g.N.Origin.start)) l.worker.seat.view.claims
