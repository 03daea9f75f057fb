use Rattle.std.proofs.Common.{◌≡◌, false, vec_len}
use Rattle.claim_counter.specs.Crews.{IsCrew}
use Rattle.campaign_workers.specs.Workplaces.{seats_of}
use Rattle.campaign_workers.proofs.fan_out.join_ready.Given as goal

abbrev pub invariant-loop-worker : goal.invariant-loop-worker
invariant-loop-worker g l = record {
  crew : IsCrew l.shared l.first (seats_of l.workers.items);
  free : l.first.view.holds ≡ false;
}

abbrev pub decreases-loop-worker : goal.decreases-loop-worker
decreases-loop-worker g l = vec_len l.workers
