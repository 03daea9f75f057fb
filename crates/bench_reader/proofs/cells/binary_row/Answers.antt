use Rattle.std.proofs.Common.{arith}
use Rattle.bench_reader.proofs.Parity.{one_cell}
use Rattle.bench_reader.proofs.cells.binary_row.Goals as goal

pub loop-left-preserved : goal.loop-left-preserved
loop-left-preserved c = record {
  few = let h = c.loop-left.invariant.few in omega arith;
  told = one_cell c.loop-left.left c.args.number c.loop-left.row c.push.new.self c.cell_of.result _ c.loop-left-test.true c.cell_of.ensures c.in_ok-push.ensures.ok c.loop-left.invariant.told;
}
