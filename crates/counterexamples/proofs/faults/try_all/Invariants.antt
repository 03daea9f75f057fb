use Rattle.std.proofs.Common.{◌≡◌, ◌≤◌, ◌-◌, length}
use Rattle.lane_words.specs.Bank.{IsBankFor}
use Rattle.counterexamples.specs.Contradicted.{MarksContradicted}
use Rattle.counterexamples.proofs.faults.try_all.Given as goal

abbrev pub invariant-batches : goal.invariant-batches
invariant-batches l = record {
  within : l.first ≤ length l.tried;
  made : IsBankFor l.netlist l.order l.lanes;
  size : length l.seen ≡ length l.fn.seen;
  same : length l.numbers ≡ length l.fn.numbers;
  count : length l.marks ≡ length l.fn.marks;
  marks : MarksContradicted l.netlist l.posed l.faults l.fn.marks → MarksContradicted l.netlist l.posed l.faults l.marks;
}

abbrev pub decreases-batches : goal.decreases-batches
decreases-batches l = length l.tried - l.first
