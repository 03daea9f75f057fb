use Rattle.std.proofs.Common.{◌≡◌, ◌<◌, ◌+◌, ℕ, length}
use Rattle.classifier.specs.Simulator.{listed}
use Rattle.fault_collapse.specs.Chosen.{faults_in}
use Rattle.fault_collapse.proofs.simulate.lists_of.Given as goal

-- the words so far have the faults of their groups
abbrev pub invariant-loop-word : goal.invariant-loop-word
invariant-loop-word l = record {
  count : length l.lists ≡ 4;
  held : (word k : ℕ) → word < l.word → k < 64 → listed l.lists word k ≡ faults_in l.faults l.numbers (l.first + word) k;
}
