use Rattle.std.proofs.Common.{◌≡◌, length}
use Rattle.claim_counter.proofs.Undrawn.{undrawn}
use Rattle.campaign_board.specs.Missing.{batches_missing}
use Rattle.campaign_shard.specs.PartSeats.{IsAtPart}
use Rattle.campaign_shard.proofs.seat.work_part.Given as goal

abbrev pub invariant-draws : goal.invariant-draws
invariant-draws g l = record {
  at : IsAtPart l.shared g.N.Origin.start l.part l.parts l.seat;
  none : l.seat.view.nones ≡ 0;
  simulator : l.simulator ≡ l.initial.simulator;
}

-- a draw leaves fewer batches that the seat may still draw
abbrev pub decreases-draws : goal.decreases-draws
decreases-draws g l = undrawn (length (batches_missing g.N.Origin.start)) l.seat.view.claims
