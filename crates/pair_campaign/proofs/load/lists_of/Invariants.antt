use Rattle.std.proofs.Common.{◌≡◌, ◌+◌, ◌*◌, ◌<◌, ℕ, length}
use Rattle.classifier.specs.Simulator.{listed}
use Rattle.pair_campaign.specs.Work.{faults_in_lane}
use Rattle.pair_campaign.proofs.load.lists_of.Given as goal

-- the words so far have the pairs of their planes
abbrev pub invariant-loop-word : goal.invariant-loop-word
invariant-loop-word l = record {
  count : length l.lists ≡ 4;
  held : (word k : ℕ) → word < l.word → k < 64 → listed l.lists word k ≡ faults_in_lane l.plan l.pairs (l.first + word * l.apart) k;
}
