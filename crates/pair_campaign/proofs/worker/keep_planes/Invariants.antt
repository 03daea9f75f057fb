use Rattle.std.proofs.Common.{◌≡◌, ◌+◌, ◌*◌, ◌<◌, ℕ, length}
use Rattle.std.specs.Prelude.{slice_index}
use Rattle.fault_list.specs.Faults.{batches_for}
use Rattle.campaign_plan.specs.Analysis.{Analysis}
use Rattle.pair_list.specs.Chosen.{pair_count}
use Rattle.pair_campaign.specs.PairPlanes.{pair_plane}
use Rattle.pair_campaign.specs.Work.{ShowPlanes}
use Rattle.pair_campaign.proofs.worker.keep_planes.Given as goal

-- the planes of the words so far stand at their places, and a plane that was right is right
abbrev pub invariant-loop-word : goal.invariant-loop-word
invariant-loop-word l = record {
  simulator : l.worker.simulator ≡ l.initial.worker.simulator;
  room : length l.worker.planes.items ≡ batches_for (pair_count l.pairs);
  right : (p : Analysis) (q : ℕ) → ShowPlanes p l.pairs l.first l.apart l.found
      → slice_index l.initial.worker.planes.items q ≡ pair_plane p l.pairs q → slice_index l.worker.planes.items q ≡ pair_plane p l.pairs q;
  own : (p : Analysis) (word : ℕ) → ShowPlanes p l.pairs l.first l.apart l.found → word < l.word → l.first + word * l.apart < batches_for (pair_count l.pairs)
      → slice_index l.worker.planes.items (l.first + word * l.apart) ≡ pair_plane p l.pairs (l.first + word * l.apart);
}
