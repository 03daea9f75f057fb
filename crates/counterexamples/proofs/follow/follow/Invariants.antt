use Rattle.std.proofs.Common.{◌≡◌, length}
use Rattle.lane_words.specs.Bank.{IsBankFor, KeepsBankLoads}
use Rattle.lane_words.specs.Loads.{loaded_faults}
use Rattle.counterexamples.specs.Runs.{IsFollowedTo}
use Rattle.counterexamples.proofs.follow.follow.Given as goal

abbrev pub invariant-loop-t : goal.invariant-loop-t
invariant-loop-t l = record {
  made : IsBankFor l.netlist l.order l.lanes;
  keeps : KeepsBankLoads l.fn.lanes l.lanes;
  size : length l.seen ≡ length l.fn.seen;
  cycle : l.lanes.cycle ≡ l.t;
  run : IsFollowedTo l.netlist l.posed (loaded_faults l.fn.lanes.loads) l.lanes l.seen l.t l.raised;
}
