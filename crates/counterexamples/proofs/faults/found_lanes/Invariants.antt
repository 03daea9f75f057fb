use Rattle.std.proofs.Common.{◌≡◌, length}
use Rattle.lane_words.specs.Bank.{IsBankFor, KeepsBankLoads}
use Rattle.lane_words.specs.Loads.{loaded_faults}
use Rattle.counterexamples.specs.Runs.{LanesContradicted}
use Rattle.counterexamples.proofs.faults.found_lanes.Given as goal

abbrev pub invariant-loop-run : goal.invariant-loop-run
invariant-loop-run l = record {
  made : IsBankFor l.netlist l.order l.lanes;
  keeps : KeepsBankLoads l.fn.lanes l.lanes;
  size : length l.seen ≡ length l.fn.seen;
  same : length l.numbers ≡ length l.fn.numbers;
  found : LanesContradicted l.netlist l.posed (loaded_faults l.fn.lanes.loads) l.found;
}
