use Rattle.std.proofs.Common.{◌≡◌, ◌<◌, ℕ, length}
use Rattle.golden_difference.specs.Lanes.{IsMadeFor}
use Rattle.testbench.specs.Load.{lane_faults, load_of}
use Rattle.classifier.specs.OutOfReach.{AreOutOfReach, reach_at}
use Rattle.classifier.specs.Simulator.{listed}
use Rattle.classifier.proofs.simulator.load_lists.Given as goal

-- the words so far hold their lists, and their lanes are marked
abbrev pub invariant-loop-word : goal.invariant-loop-word
invariant-loop-word l = record {
  made : IsMadeFor l.initial.lanes.circuit l.initial.lanes.order l.lanes;
  loads : (word k : ℕ) → word < l.word → k < 64 → lane_faults (load_of l.lanes) word k ≡ listed l.lists word k;
  count : length l.reach ≡ 4;
  reach : (word : ℕ) → word < l.word → AreOutOfReach l.bench.circuit l.bench.points (lane_faults (load_of l.lanes) word) (reach_at l.reach word);
}
