use Rattle.std.proofs.Common.{length, vec_len}
use Rattle.claim_counter.proofs.Joining.{Joined}
use Rattle.campaign_workers.specs.Workplaces.{seats_of}
use Rattle.campaign_workers.proofs.fan_out.board_of_all.Given as goal

abbrev pub invariant-loop-worker : goal.invariant-loop-worker
invariant-loop-worker g l = Joined l.shared (length (seats_of l.initial.workers.items)) l.first (seats_of l.workers.items)

abbrev pub decreases-loop-worker : goal.decreases-loop-worker
decreases-loop-worker g l = vec_len l.workers
