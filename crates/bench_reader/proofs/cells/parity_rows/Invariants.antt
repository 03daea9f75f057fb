use Rattle.std.proofs.Common.{◌≡◌, map}
use Rattle.std.specs.Prelude.{filter}
use Rattle.fm_base.specs.Lists.{below}
use Rattle.bench_reader.specs.Gates.{cells_of}
use Rattle.bench_reader.specs.Steps.{is_odd_row}
use Rattle.bench_reader.proofs.cells.parity_rows.Given as goal

abbrev pub invariant-loop-number : goal.invariant-loop-number
invariant-loop-number l = l.rows ≡ filter is_odd_row (map (cells_of l.inputs) (below l.number))
