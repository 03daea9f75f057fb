use Rattle.std.proofs.Common.{◌≡◌, ◌≤◌, ◌++◌}
use Rattle.bench_reader.specs.Gates.{cells_of}
use Rattle.bench_reader.proofs.cells.binary_row.Given as goal

abbrev pub invariant-loop-left : goal.invariant-loop-left
invariant-loop-left l = record {
  few : l.left ≤ l.inputs;
  told : l.row ++ cells_of l.left l.number ≡ cells_of l.inputs l.number;
}

abbrev pub decreases-loop-left : goal.decreases-loop-left
decreases-loop-left l = l.left
