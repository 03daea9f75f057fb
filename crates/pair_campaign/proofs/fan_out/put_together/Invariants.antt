use Rattle.std.proofs.Common.{◌≡◌, ◌%◌, ◌<◌, ℕ, length, get_or}
use Rattle.pair_campaign.specs.declared.worker.PairWorker.{PairWorker}
use Rattle.pair_campaign.proofs.fan_out.put_together.Given as goal

-- the planes so far are those of their workers
abbrev pub invariant-loop-q : goal.invariant-loop-q
invariant-loop-q l =
    (k : ℕ) (d : PairWorker) → k < l.q → get_or l.planes k 0 ≡ get_or (get_or l.workers (k % length l.workers) d).planes.items k 0
