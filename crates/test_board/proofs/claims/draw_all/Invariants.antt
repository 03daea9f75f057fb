use Rattle.std.proofs.Common.{◌≡◌, ◌≤◌}
use Rattle.claim_counter.specs.Seats.{IsOf}
use Rattle.test_board.proofs.claims.draw_all.Given as goal

abbrev pub invariant-loop : goal.invariant-loop
invariant-loop g l = record { of : IsOf l.claims l.seat; first : l.seat.view.nones ≡ 0; few : l.claims.todo ≤ 128 }
